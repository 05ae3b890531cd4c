use Rattle.terminal_schedules.proofs.OrderLaw.{every_order_law}
use Rattle.terminal_schedules.proofs.laws.every_order.Goals as goal

pub returns : goal.returns
returns c = every_order_law
