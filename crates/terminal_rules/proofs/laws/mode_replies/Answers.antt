use Rattle.terminal_rules.proofs.ModeReplyLaw.{word_is_sent}
use Rattle.terminal_rules.proofs.laws.mode_replies.Goals as goal

pub returns : goal.returns
returns c = word_is_sent
