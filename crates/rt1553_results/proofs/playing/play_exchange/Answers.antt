use Rattle.std.proofs.Common.{◌∷◌, subst, sym, option_map}
use Rattle.bus_word.specs.declared.word.Bus.TheVariants.{A}
use Rattle.terminal_rules.specs.declared.event.Event.TheVariants.{Gap}
use Rattle.terminal_exchanges.specs.Values.{exchange_in}
use Rattle.terminal_exchanges.specs.ExchangeLaws.{before_its_gap}
use Rattle.bus_terminal.specs.Stands.{StandsAt}
use Rattle.rt1553_results.specs.Handed.{handing_in}
use Rattle.rt1553_results.proofs.PlayLaws.{exchange_passes, row_kept}
use Rattle.rt1553_results.proofs.playing.play_exchange.Goals as goal

pub returns-clause-stands : goal.returns-clause-stands
returns-clause-stands g c P h s =
    let x = exchange_in c.args.exchange in
    let k = before_its_gap x h in
    subst (λ h. StandsAt g.L.Legality.is_legal P h c.take_slots-reply.new.terminal) (sym (exchange_passes h x))
    (c.take_slots-reply.ensures.stands P (Gap A ∷ k) (c.take_gap-handed.ensures.stands P k (c.take_words.ensures P h s)))

pub returns-clause-row : goal.returns-clause-row
returns-clause-row g c P h s =
    let x = exchange_in c.args.exchange in
    let k = before_its_gap x h in
    let before = c.take_words.ensures P h s in
    row_kept P h x c.take_slots-reply.result.items (option_map handing_in c.take_gap-handed.result)
    (c.take_slots-reply.ensures.sent P (Gap A ∷ k) (c.take_gap-handed.ensures.stands P k before))
    (c.take_gap-handed.ensures.handed P k before)
