-- What the readers of all faults tell, table by table.
use Rattle.std.specs.Prelude.{ℕ, Bool, not, List, [], ◌∷◌, ◌++◌, Option, Some, None, is_some, map, flat_map, if◌then◌else◌}
use Rattle.toml.specs.Data.{Data, Members, as_array}
use Rattle.bus_profile.specs.declared.entry_faults.EntryKind.{EntryKind}
use Rattle.bus_profile.specs.declared.entry_faults.EntryKind.TheVariants as kind
use Rattle.bus_legal.specs.declared.entries.ModeRule.{ModeRule}
use Rattle.bus_profile.specs.declared.fault.Key.{Key}
use Rattle.bus_profile.specs.declared.fault.Key.TheVariants as key
use Rattle.bus_profile.specs.declared.fault.Part.{Part}
use Rattle.bus_profile.specs.declared.fault.Part.TheVariants as part
use Rattle.bus_profile.specs.declared.fault.ProfileFault.{ProfileFault}
use Rattle.bus_profile.specs.declared.fault.ProfileFault.TheVariants.{UnknownKey, Missing, WrongKind, RequiredCode}
use Rattle.bus_word.specs.Mode.{required_codes}
use Rattle.bus_profile.specs.Checks.{Check, first_fault}
use Rattle.bus_profile.specs.Keys.{KeyRow, keys_of, address_row, broadcast_row, wraparound_row, accept_row, vector_row, bit_row, rules_key, modes_key, initials_key, to_row, direction_row, subaddresses_row, counts_row, legal_row, codes_row, subaddress_row, at_row, words_row, rule_rows, mode_rows, initial_rows}
use Rattle.bus_profile.specs.Kinds.{has_unknown}
use Rattle.bus_profile.specs.Faults.{row_checks, entry_checks, words_checks}
use Rattle.bus_legal.specs.OwnCodes.{is_own_code_legal}
use Rattle.bus_profile.specs.AllFaults.{failing}

-- the faults of several parts, one after the other
abbrev pub failing_parts : List (List Check) → List ProfileFault
failing_parts [] = []
failing_parts (part ∷ parts) = failing part ++ failing_parts parts

-- a list of the fault, where there is one
abbrev pub present : Option ProfileFault → List ProfileFault
present None = []
present (Some f) = f ∷ []

-- the line of the table of keys that a key has
abbrev pub row_of : Key → KeyRow
row_of key.Address = address_row
row_of key.Broadcast = broadcast_row
row_of key.Wraparound = wraparound_row
row_of key.AcceptBusControl = accept_row
row_of key.Vector = vector_row
row_of key.Bit = bit_row
row_of key.Rule = rules_key
row_of key.Mode = modes_key
row_of key.Initial = initials_key
row_of key.To = to_row
row_of key.Direction = direction_row
row_of key.Subaddresses = subaddresses_row
row_of key.Counts = counts_row
row_of key.Legal = legal_row
row_of key.Codes = codes_row
row_of key.Subaddress = subaddress_row
row_of key.At = at_row
row_of key.Words = words_row

-- the fault of a table with a key that it may not have
abbrev pub unknown_told : Part → List KeyRow → Members → Option ProfileFault
unknown_told part rows ms = if has_unknown (keys_of rows) ms then Some (UnknownKey part) else None

-- the fault of a key
abbrev pub key_told : Part → Members → Key → Option ProfileFault
key_told part ms key = first_fault (row_checks part ms (row_of key))

-- the fault of an array as such, of its kind or of what isn't there
abbrev pub array_told : Part → Key → Bool → Option Data → Option ProfileFault
array_told part key required None = if required then Some (Missing part key) else None
array_told part key required (Some d) = if is_some (as_array d) then None else Some (WrongKind part key)

-- those of several keys
abbrev pub keys_told : Part → Members → List Key → List ProfileFault
keys_told part ms keys = failing_parts (map (λ key. row_checks part ms (row_of key)) keys)

-- ---- the entries of the three arrays

-- the key of the array that holds entries of this kind
abbrev pub array_row : EntryKind → KeyRow
array_row kind.Rule = rules_key
array_row kind.Mode = modes_key
array_row kind.Initial = initials_key

-- the entry of this kind with this number, as a part of the profile
abbrev pub part_of : EntryKind → ℕ → Part
part_of kind.Rule n = part.Rule n
part_of kind.Mode n = part.Mode n
part_of kind.Initial n = part.Initial n

-- the keys that an entry of this kind may have
abbrev pub key_rows_of : EntryKind → List KeyRow
key_rows_of kind.Rule = rule_rows
key_rows_of kind.Mode = mode_rows
key_rows_of kind.Initial = initial_rows

-- the checks of the keys of an entry
abbrev pub keys_in : EntryKind → ℕ → Members → List (List Check)
keys_in kind.Rule n ms = map (row_checks (part.Rule n) ms) rule_rows
keys_in kind.Mode n ms = map (row_checks (part.Mode n) ms) mode_rows
keys_in kind.Initial n ms = row_checks (part.Initial n) ms subaddress_row ∷ row_checks (part.Initial n) ms at_row ∷ words_checks (part.Initial n) ms ∷ []

-- the checks of an entry: those of `Faults` of its kind
abbrev pub checks_of : EntryKind → ℕ → Data → List Check
checks_of k n = entry_checks (part_of k n) (array_row k) (key_rows_of k) (λ ms. keys_in k n ms)

-- ---- codes

-- the fault of a code that must be legal, where it isn't
abbrev pub code_told : List ModeRule → ℕ → List ProfileFault
code_told modes code = if not (is_own_code_legal modes code) then RequiredCode code ∷ [] else []

-- the faults of all own mode codes that must be legal and are not
abbrev pub codes_told : List ModeRule → List ProfileFault
codes_told modes = flat_map (code_told modes) required_codes
