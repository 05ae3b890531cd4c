use Rattle.std.proofs.Common.{◌||◌, ap, sym, ◌∙◌}
use Rattle.terminal_rules.specs.Open.{is_on}
use Rattle.terminal_rules.specs.Reply.{reply_bus}
use Rattle.terminal_state.specs.Replies.{shown_reply}
use Rattle.bus_terminal.proofs.EngagedLaw.{engaged_law}
use Rattle.bus_terminal.proofs.terminal.Terminal.is_engaged.Goals as goal

pub returns-else-is_open_on : goal.returns-else-is_open_on
returns-else-is_open_on g c P h s =
    c.replies_on.ensures
    ∙ (ap (λ x. x || is_on c.args.bus (reply_bus (shown_reply c.args.self.now.reply))) (sym c.if-is_open_on.false ∙ c.is_open_on.ensures)
    ∙ engaged_law g.L.Legality.is_legal P h c.args.bus c.args.self.now s)
