use Rattle.terminal_messages.proofs.Placed.{placed_law}
use Rattle.terminal_messages.proofs.laws.commands_have_places.Goals as goal

pub returns : goal.returns
returns c = placed_law
