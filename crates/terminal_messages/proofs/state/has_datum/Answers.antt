use Rattle.std.proofs.Common.{is_some, ap, ◌∙◌}
use Rattle.terminal_messages.proofs.state.has_datum.Goals as goal

pub returns : goal.returns
returns c ds = c.is_some.ensures ∙ ap is_some (c.datum_told.ensures ds)
