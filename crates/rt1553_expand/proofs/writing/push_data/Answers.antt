use Rattle.rt1553_expand.proofs.WroteLaws.{data-more}
use Rattle.rt1553_expand.proofs.writing.push_data.Goals as goal

pub loop-word-preserved : goal.loop-word-preserved
loop-word-preserved c = data-more c.args.bus c.args.words.now c.loop-word.word-index _ _ _ c.loop-word-test.true c.loop-word.invariant c.in_ok-push_word.ensures
