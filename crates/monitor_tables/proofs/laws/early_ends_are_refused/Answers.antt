use Rattle.monitor_tables.proofs.ReadBackLaws.{early_ends}
use Rattle.monitor_tables.proofs.laws.early_ends_are_refused.Goals as goal

pub returns : goal.returns
returns c = early_ends
