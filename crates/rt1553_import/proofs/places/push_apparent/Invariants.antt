use Rattle.std.proofs.Common.{◌≡◌, ◌++◌, not, drop, filter}
use Rattle.rt1553_import.specs.Places.{is_hidden}
use Rattle.rt1553_import.proofs.places.push_apparent.Given as goal

abbrev pub invariant-loop-fault : goal.invariant-loop-fault
invariant-loop-fault l = l.faults.items ++ filter (λ f. not (is_hidden l.own f)) (drop l.fault-index l.placed) ≡ l.fn.faults.items ++ filter (λ f. not (is_hidden l.own f)) l.placed
