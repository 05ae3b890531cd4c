-- The first fault of each section of a profile, key by key.
use Rattle.std.proofs.Common.{◌≡◌, ℕ, false, cond, Option, Some, None, List, ◌∷◌, ◌∙◌}
use Rattle.std.specs.Option.{option_or}
use Rattle.toml.specs.Data.{table, Members}
use Rattle.toml.specs.View.{items_view}
use Rattle.toml.specs.declared.value.Value.{Value}
use Rattle.bus_profile.specs.declared.fault.Part.{Part}
use Rattle.bus_profile.specs.declared.fault.Part.TheVariants.{Rule, Mode, Initial}
use Rattle.bus_profile.specs.declared.fault.ProfileFault.{ProfileFault}
use Rattle.bus_profile.specs.declared.fault.ProfileFault.TheVariants.{UnknownKey}
use Rattle.bus_profile.specs.Keys.{KeyRow, keys_of, rule_rows, mode_rows, initial_rows, to_row, direction_row, subaddresses_row, counts_row, legal_row, codes_row, subaddress_row, at_row, words_row}
use Rattle.bus_profile.specs.Kinds.{has_unknown, value, items}
use Rattle.bus_profile.specs.Faults.{row_checks, head_checks, array_checks, each_item, entry_checks, rule_checks, mode_checks, goes_beyond, word_checks, initial_checks}
use Rattle.bus_profile.specs.Checks.{first_fault}
use Rattle.bus_profile.specs.inner.FirstFault.{fault_of_parts}
use Rattle.bus_profile.proofs.Least.{first_fault-in_order}

-- the fault of a table with a key that it doesn't have
abbrev pub unknown_fault : Part → List KeyRow → Members → Option ProfileFault
unknown_fault part rows ms = cond (has_unknown (keys_of rows) ms) (Some (UnknownKey part)) None

abbrev pub row_fault : Part → Members → KeyRow → Option ProfileFault
row_fault part ms row = first_fault (row_checks part ms row)

pub mode_fault : (n : ℕ) (ms : Members) → first_fault (mode_checks n (table ms))
    ≡ option_or (unknown_fault (Mode n) mode_rows ms)
    (option_or (row_fault (Mode n) ms to_row)
    (option_or (row_fault (Mode n) ms codes_row)
    (option_or (row_fault (Mode n) ms legal_row) None)))
unfolding entry_checks
mode_fault n ms = first_fault-in_order _

pub rule_fault : (n : ℕ) (ms : Members) → first_fault (rule_checks n (table ms))
    ≡ option_or (unknown_fault (Rule n) rule_rows ms)
    (option_or (row_fault (Rule n) ms to_row)
    (option_or (row_fault (Rule n) ms direction_row)
    (option_or (row_fault (Rule n) ms subaddresses_row)
    (option_or (row_fault (Rule n) ms counts_row)
    (option_or (row_fault (Rule n) ms legal_row) None)))))
unfolding entry_checks
rule_fault n ms = first_fault-in_order _

pub initial_fault : (n : ℕ) (ms : Members) → first_fault (initial_checks n (table ms))
    ≡ option_or (unknown_fault (Initial n) initial_rows ms)
    (option_or (row_fault (Initial n) ms subaddress_row)
    (option_or (row_fault (Initial n) ms at_row)
    (option_or (option_or (first_fault (head_checks (Initial n) words_row (goes_beyond (value at_row ms)) ms)) (fault_of_parts (each_item (λ _. word_checks (Initial n)) 1 (items (value words_row ms))))) None)))
unfolding entry_checks array_checks
initial_fault n ms = first_fault-in_order _ ∙ rw (first_fault-in_order (head_checks (Initial n) words_row (goes_beyond (value at_row ms)) ms ∷ each_item (λ _. word_checks (Initial n)) 1 (items (value words_row ms))))

-- a word of an initial entry with a fault, where there is none before it
pub word_fails : (n : ℕ) (ms : Members) (vs : List Value) (fault : ProfileFault)
    → false ≡ has_unknown (keys_of initial_rows) ms → row_fault (Initial n) ms subaddress_row ≡ None → row_fault (Initial n) ms at_row ≡ None
    → first_fault (head_checks (Initial n) words_row (goes_beyond (value at_row ms)) ms) ≡ None → items_view vs ≡ items (value words_row ms)
    → fault_of_parts (each_item (λ _. word_checks (Initial n)) 1 (items_view vs)) ≡ Some fault
    → first_fault (initial_checks n (table ms)) ≡ Some fault
word_fails n ms vs fault known subaddress at head is word = initial_fault n ms ∙ rw (← known, subaddress, at, head, ← is, word)
