use Rattle.std.proofs.Common.{List, ℕ, take, string_bytes}
use Rattle.rt1553_report.specs.Pieces.{AddsPiece}
use Rattle.report_pages.specs.CoveragePage.{AreRowsOf}
use Rattle.report_pages.specs.ResultsPage.{IsProfileRow}
use Rattle.report_pages.proofs.page.push_profiles.Given as goal

abbrev pub invariant-loop-profile : goal.invariant-loop-profile
invariant-loop-profile l =
    (rows : List ℕ) × AreRowsOf IsProfileRow (take l.profile-index l.profiles) rows × AddsPiece (string_bytes l.initial.page) (string_bytes l.page) rows
