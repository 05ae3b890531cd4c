use Rattle.std.proofs.Common.{◌∙◌, sym, arith}
use Rattle.line_format.proofs.Writes.{words_more}
use Rattle.line_format.proofs.write.put_words.Goals as goal

pub loop-word-preserved : goal.loop-word-preserved
loop-word-preserved c =
    let at = c.loop-word.word-index in
    let ws = c.args.words.now in
    let out = c.loop-word.out.items in
    let more = words_more out ws at (omega arith) in
    rw (c.in_ok-put_number.ensures, c.in_ok-push.ensures.items, c.from.ensures) (sym more ∙ c.loop-word.invariant)
