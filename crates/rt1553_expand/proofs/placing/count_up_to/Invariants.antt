use Rattle.std.proofs.Common.{◌≡◌, ◌+◌, drop}
use Rattle.rt1553_expand.specs.inner.StillLeft.{count_up_to}
use Rattle.rt1553_expand.proofs.placing.count_up_to.Given as goal

abbrev pub invariant-loop-i : goal.invariant-loop-i
invariant-loop-i l = count_up_to l.hand l.events ≡ l.i + count_up_to l.hand (drop l.i l.events)
