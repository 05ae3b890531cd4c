use Rattle.std.proofs.Common.{List, ℕ, take, codes, string_bytes}
use Rattle.rt1553_report.specs.Pieces.{AddsPiece}
use Rattle.report_pages.specs.CoveragePage.{AreRowsOf, IsFileRow}
use Rattle.report_pages.proofs.coverage.push_recordings.Given as goal

abbrev pub invariant-loop-file : goal.invariant-loop-file
invariant-loop-file l =
    (rows : List ℕ) × AreRowsOf (λ file. IsFileRow (codes "recording") file.now) (take l.file-index l.recordings) rows × AddsPiece (string_bytes l.initial.page) (string_bytes l.page) rows
