use Rattle.std.proofs.Common.{List, ℕ, take, string_bytes}
use Rattle.rt1553_report.specs.Pieces.{AddsPiece}
use Rattle.report_pages.specs.CoveragePage.{AreRowsOf}
use Rattle.report_pages.specs.ResultsPage.{IsClauseLine}
use Rattle.report_pages.proofs.page.push_clause_lines.Given as goal

abbrev pub invariant-loop-clause : goal.invariant-loop-clause
invariant-loop-clause l =
    (rows : List ℕ) × AreRowsOf (λ c. IsClauseLine c.items) (take l.clause-index l.clauses) rows × AddsPiece (string_bytes l.initial.page) (string_bytes l.page) rows
