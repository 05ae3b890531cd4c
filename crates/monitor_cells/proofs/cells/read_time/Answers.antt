use Rattle.monitor_cells.proofs.CellLaws.{time_is_text}
use Rattle.monitor_cells.proofs.cells.read_time.Goals as goal

pub returns-in_default-from_utf8-clause-said : goal.returns-in_default-from_utf8-clause-said
returns-in_default-from_utf8-clause-said c t = c.in_default-from_utf8.ensures.cases.0 (time_is_text c.args.cell.now t.plain)
