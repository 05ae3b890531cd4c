use Rattle.terminal_schedules.proofs.OrderLaw.{left_tells}
use Rattle.terminal_schedules.proofs.laws.left_tells.Goals as goal

pub returns : goal.returns
returns c = left_tells
