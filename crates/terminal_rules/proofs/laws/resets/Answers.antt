use Rattle.terminal_rules.proofs.ResetCases.{reset_law}
use Rattle.terminal_rules.proofs.laws.resets.Goals as goal

pub returns : goal.returns
returns c = reset_law
