use Rattle.std.proofs.Common.{codes}
use Rattle.report_pages.specs.CoveragePage.{IsFileRow}
use Rattle.report_pages.proofs.RowLaws.{next_row}
use Rattle.report_pages.proofs.coverage.push_recordings.Goals as goal

pub loop-file-preserved : goal.loop-file-preserved
loop-file-preserved c =
    next_row (λ file. IsFileRow (codes "recording") file.now) c.args.recordings.now c.loop-file.file-index _ _ _ _ c.loop-file-test.true c.loop-file.invariant c.in_ok-push_file_row.ensures
