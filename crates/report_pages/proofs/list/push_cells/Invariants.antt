use Rattle.std.proofs.Common.{List, ℕ, take, string_bytes}
use Rattle.rt1553_report.specs.Pieces.{AddsPiece}
use Rattle.report_pages.specs.CoveragePage.{AreRowsOf}
use Rattle.report_pages.specs.MessageList.{IsCell}
use Rattle.report_pages.proofs.list.push_cells.Given as goal

abbrev pub invariant-loop-cell : goal.invariant-loop-cell
invariant-loop-cell l =
    (rows : List ℕ) × AreRowsOf IsCell (take l.cell-index l.cells) rows × AddsPiece (string_bytes l.initial.page) (string_bytes l.page) rows
