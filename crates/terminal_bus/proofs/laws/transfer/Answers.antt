use Rattle.terminal_bus.proofs.TransferLaw.{transfer_law}
use Rattle.terminal_bus.proofs.laws.transfer.Goals as goal

pub returns : goal.returns
returns c = transfer_law
