use Rattle.std.proofs.Common.{List, ℕ, take, option_map, string_bytes}
use Rattle.rt1553_report.specs.Pieces.{AddsPiece}
use Rattle.report_pages.specs.CoveragePage.{AreRowsOf, IsIllegalRow}
use Rattle.report_pages.proofs.coverage.push_illegal_rows.Given as goal

abbrev pub invariant-loop-message : goal.invariant-loop-message
invariant-loop-message l =
    (rows : List ℕ) × AreRowsOf (IsIllegalRow (option_map (λ n. n.now) l.names)) (take l.message-index l.illegal) rows × AddsPiece (string_bytes l.initial.page) (string_bytes l.page) rows
