use Rattle.terminal_rules.proofs.Reach.Same.{out-reach}
use Rattle.terminal_rules.proofs.laws.reach_keeps_answers.Goals as goal

pub returns : goal.returns
returns c = out-reach
