use Rattle.std.proofs.Common.{Some, sym, ◌∙◌}
use Rattle.bus_word.specs.declared.word.Kind.TheVariants.{Com, Dat}
use Rattle.bus_word.specs.Word.{valid_word}
use Rattle.bus_terminal.proofs.StandsLaw.{word_stands}
use Rattle.bus_terminal.proofs.terminal.Terminal.take_valid.Goals as goal

pub returns-in-Com-clause-takes : goal.returns-in-Com-clause-takes
returns-in-Com-clause-takes g c P h s = rw c.in-Com.is
    (word_stands g.L.Legality.is_legal P h c.args.bus (Some (valid_word Com c.args.bits)) c.args.self.now c.take_command.new.self (sym c.replies_on.ensures ∙ c.if-replies_on.false) s c.take_command.ensures)

pub returns-in-Dat-clause-takes : goal.returns-in-Dat-clause-takes
returns-in-Dat-clause-takes g c P h s = rw c.in-Dat.is
    (word_stands g.L.Legality.is_legal P h c.args.bus (Some (valid_word Dat c.args.bits)) c.args.self.now c.take_data.new.self (sym c.replies_on.ensures ∙ c.if-replies_on.false) s c.take_data.ensures)
