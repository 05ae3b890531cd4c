use Rattle.std.proofs.Common.{length, ◌≡◌, ◌+◌, ◌++◌, take, drop}
use Rattle.toml.specs.View.{items_view}
use Rattle.bus_profile.specs.inner.FirstFault.{fault_of_parts}
use Rattle.bus_profile.specs.Faults.{word_checks, each_item}
use Rattle.bus_profile.specs.Gives.{initial_word_in, each_of}
use Rattle.bus_profile.proofs.initial.words_of.Given as goal

-- what is left gives the fault of all, and the rest of the words
abbrev pub invariant-loop-index : goal.invariant-loop-index
invariant-loop-index l = record {
  size : length l.words ≡ 32;
  faults : fault_of_parts (each_item (λ _. word_checks l.part) (1 + l.index) (items_view (drop l.index l.values))) ≡ fault_of_parts (each_item (λ _. word_checks l.part) 1 (items_view l.values));
  words : take l.index l.words ++ each_of initial_word_in (items_view (drop l.index l.values)) ≡ each_of initial_word_in (items_view l.values);
}
