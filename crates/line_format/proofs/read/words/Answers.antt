use Rattle.std.proofs.Common.{◌≡◌, ◌+◌, ◌-◌, ◌∙◌, sym, arith, take, length, length-set, refl}
use Rattle.std.proofs.lemmas.List.{take_more_set}
use Rattle.line_format.specs.Shapes.{word}
use Rattle.line_format.proofs.Steps.{fields_more}
use Rattle.line_format.proofs.read.words.Goals as goal

pub loop-index-preserved : goal.loop-index-preserved
loop-index-preserved c =
    let back : length c.args.to.now - (c.loop-index.index + 1) ≡ length c.args.to.now - c.loop-index.index - 1 = omega arith in
    record {
      left =
          rw (take_more_set c.loop-index.to c.loop-index.index c.in-Some.word (omega (arith, c.loop-index.invariant.whole)), back)
          (sym (fields_more word (length c.args.to.now - c.loop-index.index) (take c.loop-index.index c.loop-index.to) c.loop-index.rest.now c.in-Some.word c.in-Some.others.now (omega arith) c.in-Some.ensures.value)
          ∙ c.loop-index.invariant.left);
      whole = rw length-set c.loop-index.invariant.whole;
      same = refl;
      shorter = omega (arith, c.in-Some.ensures.shorter);
    }
