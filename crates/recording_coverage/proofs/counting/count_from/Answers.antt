use Rattle.std.proofs.Common.{refl}
use Rattle.recording_coverage.proofs.SoFar.{no_place, counted_none, counted_next, counted_all}
use Rattle.recording_coverage.proofs.counting.count_from.Goals as goal

pub loop-event-init : goal.loop-event-init
loop-event-init g c = λ P h stands. counted_none g.L.Legality.is_legal P c.args.own h c.args.events.now c.args.watch.now c.args.coverage.now stands

pub loop-event-preserved : goal.loop-event-preserved
loop-event-preserved g c = λ P h stands.
    let i = c.loop-event in
    counted_next g.L.Legality.is_legal P c.args.own h c.args.events.now i.event-index c.event-item.result _ _ c.args.coverage.now i.coverage c.count_closed.new.coverage c.step-closed.result c.loop-event-test.true c.event-item.is (i.invariant P h stands)
    (λ k at. c.step-closed.ensures.closed P no_place k at refl) c.count_closed.ensures (λ k at. c.step-closed.ensures.stands P no_place k at refl)

pub returns-clause-counts : goal.returns-clause-counts
returns-clause-counts g c = λ P h ends same stands.
    (counted_all g.L.Legality.is_legal P c.args.own h c.args.events.now c.loop-event.event-index _ c.args.coverage.now c.loop-event.coverage c.loop-event-test.false (c.loop-event.invariant P h stands)).1 ends same

pub returns-clause-stands : goal.returns-clause-stands
returns-clause-stands g c = λ P h stands.
    (counted_all g.L.Legality.is_legal P c.args.own h c.args.events.now c.loop-event.event-index _ c.args.coverage.now c.loop-event.coverage c.loop-event-test.false (c.loop-event.invariant P h stands)).0
