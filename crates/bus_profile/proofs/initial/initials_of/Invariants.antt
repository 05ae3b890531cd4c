use Rattle.std.proofs.Common.{◌≡◌, ◌+◌, ◌++◌, length, drop, map}
use Rattle.toml.specs.View.{items_view}
use Rattle.bus_profile.specs.inner.FirstFault.{fault_of_parts}
use Rattle.bus_profile.specs.Faults.{initial_checks, each_item}
use Rattle.bus_legal.specs.Plain.{plain_initial}
use Rattle.bus_profile.specs.Gives.{initial_in, each_of}
use Rattle.bus_profile.proofs.initial.initials_of.Given as goal

-- what is left gives the fault of all, and the rest of the entries
abbrev pub invariant-loop-index : goal.invariant-loop-index
invariant-loop-index l = record {
  count : length l.initials.items ≡ l.index;
  faults : fault_of_parts (each_item initial_checks (1 + l.index) (items_view (drop l.index l.values))) ≡ fault_of_parts (each_item initial_checks 1 (items_view l.values));
  entries : map plain_initial l.initials.items ++ each_of initial_in (items_view (drop l.index l.values)) ≡ each_of initial_in (items_view l.values);
}
