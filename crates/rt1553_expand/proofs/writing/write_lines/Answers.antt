use Rattle.rt1553_expand.proofs.WroteLaws.{Wrote-event}
use Rattle.rt1553_expand.proofs.writing.write_lines.Goals as goal

pub loop-event-preserved : goal.loop-event-preserved
loop-event-preserved c = Wrote-event c.args.events.now c.loop-event.event-index c.event-item.result c.loop-event-test.true c.event-item.is c.loop-event.invariant c.in_ok-write_line.ensures
