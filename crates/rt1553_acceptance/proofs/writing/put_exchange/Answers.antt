use Rattle.std.proofs.Common.{◌∙◌}
use Rattle.bus_legal.specs.Parts.{description_in}
use Rattle.terminal_exchanges.specs.Values.{exchange_in}
use Rattle.rt1553_acceptance.proofs.PutLaws.{Puts-events}
use Rattle.rt1553_acceptance.proofs.writing.put_exchange.Goals as goal

pub returns-clause-wrote : goal.returns-clause-wrote
returns-clause-wrote g c =
    let events = c.as_slice.ensures.value ∙ c.events_of-events.ensures in
    Puts-events g.L.Legality.is_legal g.W.Sink.written c.args.names.now (description_in c.args.p.now) _ _ _ _ _ (exchange_in c.args.exchange) _ c.put_events.result events
    c.in_ok-put_comment.ensures.wrote c.put_events.ensures.wrote c.put_events.ensures.fits
