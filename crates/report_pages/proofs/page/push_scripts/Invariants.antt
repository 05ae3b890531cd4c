use Rattle.std.proofs.Common.{List, ℕ, take, string_bytes}
use Rattle.rt1553_report.specs.Pieces.{AddsPiece}
use Rattle.report_pages.specs.CoveragePage.{AreRowsOf}
use Rattle.report_pages.specs.ResultsPage.{IsScriptRow}
use Rattle.report_pages.proofs.page.push_scripts.Given as goal

abbrev pub invariant-loop-of : goal.invariant-loop-of
invariant-loop-of l =
    (rows : List ℕ) × AreRowsOf IsScriptRow (take l.of-index l.results) rows × AddsPiece (string_bytes l.initial.page) (string_bytes l.page) rows
