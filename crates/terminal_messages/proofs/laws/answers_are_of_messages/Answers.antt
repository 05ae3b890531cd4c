use Rattle.terminal_messages.proofs.Partition.{partition_law}
use Rattle.terminal_messages.proofs.laws.answers_are_of_messages.Goals as goal

pub returns : goal.returns
returns c = partition_law
