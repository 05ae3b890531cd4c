use Rattle.std.proofs.Common.{ap, ◌∙◌}
use Rattle.monitor_cells.specs.Cells.{is_headed}
use Rattle.monitor_cells.proofs.CellLaws.{headed}
use Rattle.monitor_cells.proofs.cells.is_headed.Goals as goal

pub returns : goal.returns
returns c =
    headed c.args.cell.now c.as_bytes.result.now c.eq_ignore_ascii_case.result c.eq_ignore_ascii_case.ensures.test
    ∙ ap (λ name. is_headed name c.args.cell.now) c.as_bytes.ensures.value
