use Rattle.std.proofs.Common.{None, subst, arith, rules}
use Rattle.std.specs.List.{flat_map}
use Rattle.std.proofs.lemmas.List.{take_all}
use Rattle.rt1553_results.specs.inner.Placed.{Sees, placed_event}
use Rattle.rt1553_results.proofs.RecordedLaws.{sees_event}
use Rattle.rt1553_results.proofs.watching.see_events.Goals as goal

pub loop-event-preserved : goal.loop-event-preserved
loop-event-preserved c =
    sees_event c.args.at c.args.events.now c.loop-event.event-index c.event-item.result c.args.watch.now c.loop-event.watch c.see.new.watch (omega (arith, c.loop-event-test.true)) (search rules)
    c.loop-event.invariant c.in_ok-see.ensures

pub returns : goal.returns
returns c =
    subst (λ es. Sees (flat_map (λ e. placed_event c.args.at e None) es) c.args.watch.now c.loop-event.watch) (take_all c.loop-event.event-index c.args.events.now (omega (arith, c.loop-event-test.false))) c.loop-event.invariant
