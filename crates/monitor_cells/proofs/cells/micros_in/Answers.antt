use Rattle.monitor_cells.proofs.CellLaws.{numeral_is_text}
use Rattle.monitor_cells.proofs.cells.micros_in.Goals as goal

pub returns-in_default : goal.returns-in_default
returns-in_default c number = c.in_default.ensures.cases.0 (numeral_is_text c.args.digits.now number.0)
