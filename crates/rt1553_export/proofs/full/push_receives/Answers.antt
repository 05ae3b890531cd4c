use Rattle.std.proofs.Common.{◌+◌, ◌∙◌, ◌++◌, ap, get_or, arith}
use Rattle.rt1553_export.specs.inner.Rows.{row_bytes}
use Rattle.rt1553_export.specs.inner.Full.{receive_row}
use Rattle.rt1553_export.proofs.RowLaws.{one_more}
use Rattle.rt1553_export.proofs.full.push_receives.Goals as goal

pub loop-index-preserved : goal.loop-index-preserved
loop-index-preserved c =
    one_more (receive_row c.args.to.now) c.args.masks.now c.loop-index.index 0 c.args.text.now.items c.loop-index.text.items _ (omega (arith, c.told-masks, c.loop-index-test.true)) c.loop-index.invariant
    (c.in_ok-push_receive.ensures ∙ ap (λ i. c.loop-index.text.items ++ row_bytes (receive_row c.args.to.now (c.loop-index.index + 1) (get_or c.args.masks.now i 0))) c.from.ensures)
