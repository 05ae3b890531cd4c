use Rattle.monitor_tables.proofs.ReadBackLaws.{read_back}
use Rattle.monitor_tables.proofs.laws.recordings_read_back.Goals as goal

pub returns : goal.returns
returns c = read_back
