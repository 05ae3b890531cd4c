use Rattle.std.proofs.Common.{option_map}
use Rattle.report_pages.specs.CoveragePage.{IsLegalRow}
use Rattle.report_pages.proofs.RowLaws.{next_row}
use Rattle.report_pages.proofs.coverage.push_legal_rows.Goals as goal

pub loop-message-preserved : goal.loop-message-preserved
loop-message-preserved c =
    next_row (IsLegalRow (option_map (λ n. n.now) c.args.names)) c.args.legal.now c.loop-message.message-index _ _ _ _ c.loop-message-test.true c.loop-message.invariant c.in_ok-push_legal_row.ensures
