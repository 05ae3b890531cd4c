-- All the faults of a tree, in the order of their places.
use Rattle.std.specs.Prelude.{◌≡◌, ℕ, Bool, false, not, List, [], ◌∷◌, ◌++◌, if◌then◌else◌, filter, map}
use Rattle.toml.specs.Data.{Data, Members}
use Rattle.bus_profile.specs.declared.fault.Part.{Part}
use Rattle.bus_profile.specs.declared.fault.Part.TheVariants as part
use Rattle.bus_profile.specs.declared.fault.ProfileFault.{ProfileFault}
use Rattle.bus_profile.specs.declared.fault.ProfileFault.TheVariants.{UnknownKey}
use Rattle.bus_profile.specs.Checks.{Check, check, in_order}
use Rattle.bus_profile.specs.Keys.{KeyRow, keys_of, rules_key, modes_key, initials_key, setting_rows, root_rows, rule_rows, mode_rows, initial_rows}
use Rattle.bus_profile.specs.Kinds.{names_of, is_known, has_unknown, value, items, is_too_long}
use Rattle.bus_profile.specs.Faults.{row_checks, head_checks, entries_checks, rule_checks, mode_checks, initial_checks, code_faults}

-- the faults of the checks that fail, in their order
abbrev pub failing : List Check → List ProfileFault
failing [] = []
failing (c ∷ cs) = if c.fails then c.fault ∷ failing cs else failing cs

-- the array of entries has more than it may hold
abbrev pub is_long : KeyRow → Members → Bool
is_long row ms = is_too_long row.kind (items (value row ms))

-- no array of entries has
pub record HasShortArrays (ms : Members) : Type 0 where
  pub rules : is_long rules_key ms ≡ false
  pub modes : is_long modes_key ms ≡ false
  pub initials : is_long initials_key ms ≡ false

-- The checks of an array of entries that are told of: of one that is too long those of the whole alone, since its
-- entries may have no number.
abbrev pub told_array : KeyRow → (ℕ → Data → List Check) → Members → List Check
told_array row checks ms = if is_long row ms then head_checks part.Root row (is_too_long row.kind) ms else entries_checks row checks ms

-- as `key_faults`, of which it leaves out the entries of an array that is too long
unfoldable pub told_keys : Members → List Check
told_keys ms = in_order (
    check (UnknownKey part.Root) (has_unknown (keys_of root_rows) ms)
    ∷ (map (row_checks part.Root ms) setting_rows ++
    told_array rules_key rule_checks ms
    ∷ told_array modes_key mode_checks ms
    ∷ told_array initials_key initial_checks ms
    ∷ []))

-- The faults that are told of a tree. Where no array is too long they are all, as a clause of `all_faults` says.
abbrev pub told_faults : Members → List ProfileFault
told_faults ms = failing (told_keys ms) ++ failing (code_faults ms)

-- the keys that a table of this part may have
abbrev pub rows_at : Part → List KeyRow
rows_at part.Root = root_rows
rows_at (part.Rule n) = rule_rows
rows_at (part.Mode n) = mode_rows
rows_at (part.Initial n) = initial_rows

-- the keys of a table that it may not have, as they are written
abbrev pub unknown_names : Part → Members → List (List ℕ)
unknown_names p ms = filter (λ name. not (is_known (keys_of (rows_at p)) name)) (names_of ms)
