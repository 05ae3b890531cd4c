use Rattle.std.proofs.Common.{[], ◌∷◌, take, subst, sym, arith, rules}
use Rattle.terminal_rules.specs.Past.{history_after}
use Rattle.bus_script.specs.Played.{Played}
use Rattle.bus_script.proofs.PlayLaws.{Played-nil, Played-trans}
use Rattle.rt1553_acceptance.specs.Text.{event_stated}
use Rattle.rt1553_acceptance.specs.inner.Fits.{AllFit}
use Rattle.rt1553_acceptance.proofs.PutLaws.{fit-joined, taken_more, failed_as_before}
use Rattle.rt1553_acceptance.proofs.writing.put_events.Goals as goal

pub loop-event-init : goal.loop-event-init
loop-event-init g c = record {
  plays = Played-nil (c.args.terminal.now, c.args.sink.now);
  fit = λ P h s. tt;
  failed = cc;
}

pub loop-event-preserved : goal.loop-event-preserved
loop-event-preserved g c =
    let i = c.loop-event.invariant in
    let before = take c.loop-event.event-index c.args.events.now in
    let more = sym (taken_more c.args.events.now c.loop-event.event-index c.event-item.result (omega (arith, c.loop-event-test.true)) (search rules)) in record {
      plays = subst (Played g.L.Legality.is_legal event_stated g.W.Sink.written (c.args.terminal.now, c.args.sink.now) (c.put_event.new.terminal, c.put_event.new.sink)) more
          (Played-trans i.plays c.in_ok-put_event.ensures.wrote);
      fit = λ P h s. subst (AllFit P h) more
          (fit-joined P h before (c.event-item.result ∷ []) (i.fit P h s) (c.put_event.ensures.fits P (history_after before h) (i.plays.at P h s), tt));
      failed = failed_as_before _ _ _ i.failed c.in_ok-put_event.ensures.failed;
    }
