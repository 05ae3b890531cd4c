use Rattle.std.proofs.Common.{◌∷◌, subst, sym}
use Rattle.terminal_exchanges.specs.Exchanges.{command_event, data_event}
use Rattle.terminal_exchanges.specs.Values.{words_in}
use Rattle.terminal_exchanges.specs.ExchangeLaws.{after_words}
use Rattle.bus_terminal.specs.Stands.{StandsAt}
use Rattle.rt1553_results.proofs.playing.take_words.Goals as goal

pub returns-in-Some : goal.returns-in-Some
returns-in-Some g c P h s =
    let x = c.args.exchange.now in
    let k = command_event x.command ∷ h in
    subst (λ first. StandsAt g.L.Legality.is_legal P (after_words (words_in first x.zeros) k) c.take_zeros.new.terminal) (sym c.in-Some.is)
    (c.take_zeros.ensures P (data_event c.in-Some.first ∷ k) (c.take_valid-in-Some.ensures.takes P k (c.take_valid.ensures.takes P h s)))
