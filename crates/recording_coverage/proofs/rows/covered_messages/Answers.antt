use Rattle.bus_word.specs.declared.cell.Cell.TheVariants.{OwnReceive}
use Rattle.recording_coverage.proofs.RowLaws.{covered_next}
use Rattle.recording_coverage.proofs.rows.covered_messages.Goals as goal

pub loop-cell-preserved : goal.loop-cell-preserved
loop-cell-preserved c = λ ends covers.
    covered_next ends c.as_slice-cell-items.result.now c.loop-cell.cell-index (OwnReceive 0 0) _ _ c.covered_message.result c.loop-cell-test.true (c.covered_message.ensures ends covers) c.in_ok-push.ensures.items (c.loop-cell.invariant ends covers)
