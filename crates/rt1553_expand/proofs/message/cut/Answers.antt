use Rattle.std.proofs.Common.{ap, sym}
use Rattle.rt1553_expand.proofs.CutLaws.{cut-on, cut-found, cut-end}
use Rattle.rt1553_expand.proofs.message.cut.Goals as goal

pub returns-in-Some-clause-front : goal.returns-in-Some-clause-front
returns-in-Some-clause-front c =
    sym (ap (λ w. w.front) (cut-found c.args.mark.now c.args.text.now c.in-Some.rest.now c.loop-at.at _ c.loop-at-test.true c.in-Some.ensures.value c.loop-at.invariant))

pub returns-in-Some-clause-behind : goal.returns-in-Some-clause-behind
returns-in-Some-clause-behind c =
    sym (ap (λ w. w.behind) (cut-found c.args.mark.now c.args.text.now c.in-Some.rest.now c.loop-at.at _ c.loop-at-test.true c.in-Some.ensures.value c.loop-at.invariant))

pub loop-at-preserved : goal.loop-at-preserved
loop-at-preserved c = cut-on c.args.mark.now c.args.text.now c.loop-at.at _ c.loop-at-test.true c.in_default.ensures.value c.loop-at.invariant

pub returns-clause-front : goal.returns-clause-front
returns-clause-front c = sym (ap (λ w. w.front) (cut-end c.args.mark.now c.args.text.now c.loop-at.at _ c.loop-at-test.false c.loop-at.invariant))

pub returns-clause-behind : goal.returns-clause-behind
returns-clause-behind c = sym (ap (λ w. w.behind) (cut-end c.args.mark.now c.args.text.now c.loop-at.at _ c.loop-at-test.false c.loop-at.invariant))
