use Rattle.std.proofs.Common.{Some, sym, ◌∙◌}
use Rattle.bus_terminal.proofs.StandsLaw.{word_stands}
use Rattle.bus_terminal.proofs.terminal.Terminal.hear.Goals as goal

pub returns-then-not-replies_on-clause-takes : goal.returns-then-not-replies_on-clause-takes
returns-then-not-replies_on-clause-takes g c P h s =
    word_stands g.L.Legality.is_legal P h c.args.bus (Some c.args.word) c.args.self.now c.take_word.new.self (sym c.replies_on.ensures ∙ c.if-not-replies_on.true) s c.take_word.ensures
