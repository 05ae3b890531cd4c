use Rattle.std.proofs.Common.{ap, sym, ◌∙◌}
use Rattle.terminal_rules.specs.Starts.{starts_now}
use Rattle.terminal_rules.specs.Past.{past}
use Rattle.bus_terminal.proofs.EngagedLaw.{will_start_law}
use Rattle.bus_terminal.proofs.terminal.Terminal.will_start.Goals as goal

pub returns-in-Word : goal.returns-in-Word
returns-in-Word g c P h s =
    c.will_start_by.ensures ∙ (will_start_law g.L.Legality.is_legal P h c.in-Word.bus c.in-Word.word c.args.self.now s ∙ ap (starts_now P (past P h)) (sym c.in-Word.is))
