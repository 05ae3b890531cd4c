use Rattle.std.proofs.Common.{◌∙◌, ◌+◌, sym, ap, drop, arith}
use Rattle.monitor_cells.specs.Cells.{words_listed}
use Rattle.monitor_cells.proofs.CellLaws.{behind, left, word_more}
use Rattle.monitor_cells.proofs.cells.read_words_cell.Goals as goal

pub loop-part-preserved : goal.loop-part-preserved
loop-part-preserved c =
    let parts = c.as_slice-part-items.result.now in
    let i = c.loop-part.part-index in
    ap (λ words. behind words (left (drop (i + 1) parts))) c.in_ok-push.ensures.items
    ∙ word_more c.loop-part.words.items parts i _ c.in-Some.word (words_listed c.args.cell.now) (omega (arith, c.loop-part-test.true)) (sym c.is_empty.ensures ∙ c.if-is_empty.false)
    (sym c.in-Some.is ∙ c.read_word_cell.ensures) c.loop-part.invariant
