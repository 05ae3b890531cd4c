use Rattle.std.proofs.Common.{◌∙◌, None, ap, refl}
use Rattle.std.specs.List.{flat_map}
use Rattle.std.proofs.lemmas.Result.{on_ok_weaker}
use Rattle.terminal_exchanges.specs.Values.{exchange_in}
use Rattle.rt1553_results.specs.declared.watching.ReplyPlace.{ReplyPlace}
use Rattle.rt1553_results.specs.inner.Placed.{placed_event}
use Rattle.rt1553_results.specs.Recorded.{Replied}
use Rattle.rt1553_results.proofs.RecordedLaws.{to_gap_placed, sees_exchange}
use Rattle.rt1553_results.proofs.watching.see_exchange.Goals as goal

pub returns : goal.returns
returns c =
    let at : ReplyPlace = record { number = c.args.number; command = c.args.exchange.command; slot = 0 } in
    let r : Replied = record { exchange = exchange_in c.args.exchange; reply = c.args.reply.now } in
    on_ok_weaker c.see_silence.result
    (sees_exchange c.args.number r _ c.args.watch.now c.see_events.new.watch c.see_words.new.watch c.see_silence.new.watch
    (ap (flat_map (λ e. placed_event at e None)) (c.as_slice.ensures.value ∙ c.events_of.ensures) ∙ to_gap_placed at c.args.number r.exchange refl refl refl) c.in_ok-see_events.ensures c.in_ok-see_words.ensures)
    (rw (← c.saturating_sub.ensures) c.see_silence.ensures)
