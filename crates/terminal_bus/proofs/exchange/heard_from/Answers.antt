use Rattle.std.proofs.Common.{◌++◌, Option, List, take, sym, ap, ◌∙◌}
use Rattle.std.specs.Option.{option_to_list}
use Rattle.terminal_rules.specs.LookBack.{keep}
use Rattle.terminal_rules.specs.Out.{Sending}
use Rattle.terminal_bus.specs.Members.{heard_of}
use Rattle.terminal_bus.specs.inner.Seats.{sends_at}
use Rattle.terminal_bus.proofs.Places.{keep_next}
use Rattle.terminal_bus.proofs.exchange.heard_from.Goals as goal

pub loop-place-preserved : goal.loop-place-preserved
loop-place-preserved g c =
    let i = c.loop-place.place-index in
    let so_far : List Sending = keep (sends_at c.args.bus) (take i c.args.places.now) in
    c.with_sent-heard.ensures so_far c.loop-place.invariant
    ∙ ap (λ (ss : List Sending). heard_of c.args.bus (so_far ++ ss))
    (ap (λ (o : Option Sending). option_to_list o) (c.sent_at.ensures ∙ ap (sends_at c.args.bus) c.place-item.is))
    ∙ ap (heard_of c.args.bus) (sym (keep_next (sends_at c.args.bus) c.args.places.now i c.place-item.result c.loop-place-test.true))
