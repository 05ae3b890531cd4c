use Rattle.std.proofs.Common.{length}
use Rattle.rt1553_expand.specs.inner.Gathering.{WroteSo}
use Rattle.rt1553_expand.proofs.gathering.lines_of_events.Given as goal

abbrev pub invariant-loop-rest : goal.invariant-loop-rest
invariant-loop-rest l = WroteSo l.own l.events l.rest l.text.items

abbrev pub decreases-loop-rest : goal.decreases-loop-rest
decreases-loop-rest l = length l.rest
