use Rattle.terminal_schedules.proofs.Law.{alone_decides}
use Rattle.terminal_schedules.proofs.laws.alone_decides.Goals as goal

pub returns : goal.returns
returns c = alone_decides
