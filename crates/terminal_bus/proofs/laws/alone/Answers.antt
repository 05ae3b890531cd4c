use Rattle.terminal_bus.proofs.Law.{alone_law}
use Rattle.terminal_bus.proofs.laws.alone.Goals as goal

pub returns : goal.returns
returns c = alone_law
