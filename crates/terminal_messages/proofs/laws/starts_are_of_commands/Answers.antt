use Rattle.terminal_messages.proofs.Starts.{start_law}
use Rattle.terminal_messages.proofs.laws.starts_are_of_commands.Goals as goal

pub returns : goal.returns
returns c = start_law
