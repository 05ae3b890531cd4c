use Rattle.terminal_messages.proofs.Firsts.{local_law}
use Rattle.terminal_messages.proofs.laws.messages_stay.Goals as goal

pub returns : goal.returns
returns c = local_law
