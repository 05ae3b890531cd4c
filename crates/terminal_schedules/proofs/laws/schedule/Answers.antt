use Rattle.terminal_schedules.proofs.ScheduleLaw.{schedule_law}
use Rattle.terminal_schedules.proofs.laws.schedule.Goals as goal

pub returns : goal.returns
returns c = schedule_law
