use Rattle.std.proofs.Common.{◌<◌, ◌≢◌, length, length-set, get_or-set_other, ◌∙◌, arith}
use Rattle.bus_legal.proofs.Words.{AreWords-set, block-cut}
use Rattle.bus_legal.proofs.normal.reached.keep_sent.Goals as goal

pub loop-s-preserved : goal.loop-s-preserved
loop-s-preserved c =
    let words = c.loop-s.words in
    let at = c.loop-s.s in
    let block = c.keep_first.new.block in
    let kept = c.loop-s.invariant in
    let inside : at < length words = omega (arith, kept.whole) in
    record {
      cut = block-cut words c.args.words.now c.args.masks.now at c.largest_count.result block inside c.largest_count.ensures.count (kept.left at (omega arith)) c.keep_first.ensures.words kept.cut;
      left = λ k l. (let other : k ≢ at = omega arith in get_or-set_other words at k block _ other ∙ kept.left k (omega arith));
      blocks = λ are. AreWords-set words at block (kept.blocks are) c.keep_first.ensures.block;
      whole = length-set words at block ∙ kept.whole;
    }
