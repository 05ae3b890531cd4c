use Rattle.std.proofs.Common.{sym, ◌∙◌}
use Rattle.terminal_messages.proofs.Choice.{if_true, if_false}
use Rattle.terminal_messages.proofs.fold.begun_on.Goals as goal

pub returns-then-begins : goal.returns-then-begins
returns-then-begins c ds = c.begin.ensures ∙ if_true _ _ (sym (c.begins.ensures ds) ∙ c.if-begins.true)

pub returns-else-begins : goal.returns-else-begins
returns-else-begins c ds = if_false _ _ (sym (c.begins.ensures ds) ∙ c.if-begins.false)
