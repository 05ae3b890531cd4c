-- The checks of a profile's tree. Each has its own condition on the tree; places are given by the
-- order in which the checks of a level are listed.
use Rattle.std.specs.Prelude.{ℕ, suc, ◌+◌, ◌-◌, nat_lt, Bool, true, false, not, ◌&&◌, List, [], ◌∷◌, ◌++◌, map, Option, Some, is_none, is_some}
use Rattle.std.specs.Option.{option_map_or}
use Rattle.std.specs.List.{list_all}
use Rattle.toml.specs.Data.{Data, integer, table, Items, no_items, item, Members}
use Rattle.bus_word.specs.Mode.{required_codes}
use Rattle.bus_profile.specs.declared.fault.Key.TheVariants as key
use Rattle.bus_profile.specs.declared.fault.Part.{Part}
use Rattle.bus_profile.specs.declared.fault.Part.TheVariants as part
use Rattle.bus_profile.specs.declared.fault.ProfileFault.TheVariants.{UnknownKey, Missing, WrongKind, OutOfRange, BadRanges, TooMany, RequiredCode}
use Rattle.bus_legal.specs.OwnCodes.{is_own_code_legal}
use Rattle.bus_profile.specs.Checks.{Check, check, in_order}
use Rattle.bus_profile.specs.Keys.{Presence, required, optional, KeyRow, keys_of, rules_key, modes_key, initials_key, setting_rows, root_rows, rule_rows, mode_rows, subaddress_row, at_row, words_row, initial_rows}
use Rattle.bus_profile.specs.Kinds.{found, has_unknown, is_of_kind, in_range, is_bad_ranges, is_out_of_range, value, whole_in, items, item_kind, count_items, is_too_long}
use Rattle.bus_profile.specs.Gives.{modes_of}

-- ---- one key

-- the key must be there: it has no default
abbrev pub is_required : Presence → Bool
is_required required = true
is_required (optional default) = false

-- a test of a value that is there
abbrev pub if_there : (Data → Bool) → Option Data → Bool
if_there test d = option_map_or test d false

-- the checks of what stands at a key, or of its absence
abbrev pub key_checks : Part → KeyRow → Option Data → List Check
key_checks part row d = in_order (
    check (Missing part row.key) (is_required row.presence && is_none d)
    ∷ check (WrongKind part row.key) (if_there (λ x. not (is_of_kind row.kind x)) d)
    ∷ check (BadRanges part row.key) (if_there (is_bad_ranges row.kind) d)
    ∷ check (OutOfRange part row.key) (if_there (is_out_of_range row.kind) d)
    ∷ [])

-- the checks of a key in a table that may have it
abbrev pub row_checks : Part → Members → KeyRow → List Check
row_checks part ms row = key_checks part row (found row.key ms)

-- ---- arrays

-- the checks of each item, numbered from n
abbrev pub each_item : (ℕ → Data → List Check) → ℕ → Items → List (List Check)
each_item checks n no_items = []
each_item checks n (item d ds) = checks n d ∷ each_item checks (suc n) ds

-- the checks of an array as a whole
abbrev pub head_checks : Part → KeyRow → (Items → Bool) → Members → List Check
head_checks part row is_long ms = in_order (
    row_checks part ms row
    ∷ check (TooMany part row.key) (is_long (items (value row ms)))
    ∷ [])

-- the checks of an array: of the whole, and then of each item, from number 1
unfoldable pub array_checks : Part → KeyRow → (Items → Bool) → (ℕ → Data → List Check) → Members → List Check
array_checks part row is_long checks ms = in_order (head_checks part row is_long ms ∷ each_item checks 1 (items (value row ms)))

-- the checks of an entry of an array: that it is a table, that it has no unknown key, and those of
-- its keys
unfoldable pub entry_checks : Part → KeyRow → List KeyRow → (Members → List (List Check)) → Data → List Check
entry_checks part row rows keys (table ms) = in_order (
    check (WrongKind part row.key) false
    ∷ check (UnknownKey part) (has_unknown (keys_of rows) ms)
    ∷ keys ms)
entry_checks part row rows keys _ = in_order (check (WrongKind part row.key) true ∷ [])

-- ---- the entries

-- the checks of rule n
abbrev pub rule_checks : ℕ → Data → List Check
rule_checks n = entry_checks (part.Rule n) rules_key rule_rows (λ ms. map (row_checks (part.Rule n) ms) rule_rows)

-- the checks of mode entry n
abbrev pub mode_checks : ℕ → Data → List Check
mode_checks n = entry_checks (part.Mode n) modes_key mode_rows (λ ms. map (row_checks (part.Mode n) ms) mode_rows)

-- the checks of one word
abbrev pub word_checks : Part → Data → List Check
word_checks part d = in_order (
    check (WrongKind part key.Words) (not (is_of_kind (item_kind words_row.kind) d))
    ∷ check (OutOfRange part key.Words) (is_out_of_range (item_kind words_row.kind) d)
    ∷ [])

-- The words from number `at` on go beyond number 32. Of an `at` with a fault this isn't asked.
abbrev pub goes_beyond : Option Data → Items → Bool
goes_beyond (Some (integer z)) ds = is_some (in_range 1 32 z) && nat_lt 32 (whole_in (Some (integer z)) - 1 + count_items ds)
goes_beyond _ ds = false

-- the checks of the words of an initial entry
abbrev pub words_checks : Part → Members → List Check
words_checks part ms = array_checks part words_row (goes_beyond (value at_row ms)) (λ _. word_checks part) ms

-- the checks of initial entry n
abbrev pub initial_checks : ℕ → Data → List Check
initial_checks n = entry_checks (part.Initial n) initials_key initial_rows (λ ms.
    row_checks (part.Initial n) ms subaddress_row
    ∷ row_checks (part.Initial n) ms at_row
    ∷ words_checks (part.Initial n) ms
    ∷ [])

-- ---- the tree

-- the checks of an array of entries
abbrev pub entries_checks : KeyRow → (ℕ → Data → List Check) → Members → List Check
entries_checks row checks ms = array_checks part.Root row (is_too_long row.kind) checks ms

-- the checks of all that stands in the tree
unfoldable pub key_faults : Members → List Check
key_faults ms = in_order (
    check (UnknownKey part.Root) (has_unknown (keys_of root_rows) ms)
    ∷ (map (row_checks part.Root ms) setting_rows ++
    entries_checks rules_key rule_checks ms
    ∷ entries_checks modes_key mode_checks ms
    ∷ entries_checks initials_key initial_checks ms
    ∷ []))

-- no check fails
abbrev pub all_pass : List Check → Bool
all_pass checks = list_all (λ c. not c.fails) checks

-- An own mode code that must be legal isn't. This is asked only of a tree without another fault.
abbrev pub code_check : Members → ℕ → List Check
code_check ms code = check (RequiredCode code) (all_pass (key_faults ms) && not (is_own_code_legal (modes_of ms) code))

-- the checks of the own mode codes that must be legal, one for each
unfoldable pub code_faults : Members → List Check
code_faults ms = in_order (map (code_check ms) required_codes)

-- all the checks of a tree
unfoldable pub faults : Members → List Check
faults ms = in_order (key_faults ms ∷ code_faults ms ∷ [])
