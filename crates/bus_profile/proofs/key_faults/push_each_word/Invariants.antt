use Rattle.std.proofs.Common.{◌≡◌, ◌+◌, ◌++◌, drop}
use Rattle.toml.specs.View.{items_view}
use Rattle.bus_profile.specs.Faults.{word_checks, each_item}
use Rattle.bus_profile.specs.inner.AllFaults.{failing_parts}
use Rattle.bus_profile.proofs.key_faults.push_each_word.Given as goal

abbrev pub invariant-loop-value : goal.invariant-loop-value
invariant-loop-value l =
    l.faults.items ++ failing_parts (each_item (λ _. word_checks l.part) (1 + l.value-index) (items_view (drop l.value-index l.values))) ≡ l.initial.faults.items ++ failing_parts (each_item (λ _. word_checks l.part) 1 (items_view l.values))
