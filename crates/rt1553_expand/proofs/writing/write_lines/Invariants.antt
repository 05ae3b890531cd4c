use Rattle.std.proofs.Common.{take}
use Rattle.rt1553_expand.specs.inner.Wrote.{Wrote}
use Rattle.rt1553_expand.proofs.writing.write_lines.Given as goal

abbrev pub invariant-loop-event : goal.invariant-loop-event
invariant-loop-event l = Wrote l.fn.out.items l.out.items (take l.event-index l.events)
