use Rattle.monitor_tables.proofs.ReadLaws.{told-first}
use Rattle.monitor_tables.proofs.recording.open_table.Goals as goal

pub returns-in-Ok-clause-opened : goal.returns-in-Ok-clause-opened
returns-in-Ok-clause-opened g c = let e = c.in-Ok.ensures in (e.0, e.1, e.2, told-first (g.R.Read.remaining c.args.source) c.new-records.ensures.told e.3)
