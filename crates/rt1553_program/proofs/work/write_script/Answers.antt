use Rattle.rt1553_program.proofs.TellingLaws.{script_more}
use Rattle.rt1553_program.proofs.work.write_script.Goals as goal

pub loop-event-preserved : goal.loop-event-preserved
loop-event-preserved g c =
    script_more _ _ _ c.as_slice-event-items.result.now c.loop-event.event-index c.event-item.result c.loop-event-test.true c.event-item.is c.loop-event.invariant c.in_ok-write_event_line.ensures.ok
