use Rattle.terminal_messages.proofs.Exact.{exact_law}
use Rattle.terminal_messages.proofs.laws.ends_are_of_the_rules.Goals as goal

pub returns : goal.returns
returns c = exact_law
