use Rattle.terminal_messages.proofs.Firsts.{firsts_law}
use Rattle.terminal_messages.proofs.laws.commands_are_of_messages.Goals as goal

pub returns : goal.returns
returns c = firsts_law
