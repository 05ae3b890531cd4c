use Rattle.report_pages.specs.MessageList.{IsCell}
use Rattle.report_pages.proofs.RowLaws.{next_row}
use Rattle.report_pages.proofs.list.push_cells.Goals as goal

pub loop-cell-preserved : goal.loop-cell-preserved
loop-cell-preserved c =
    next_row IsCell c.args.cells.now c.loop-cell.cell-index _ _ _ _ c.loop-cell-test.true c.loop-cell.invariant (rw c.cell-item.is at c.in_ok-push_cell.ensures)
