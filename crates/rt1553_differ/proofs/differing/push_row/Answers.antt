use Rattle.std.proofs.Common.{◌∷◌, [], ◌++◌, ◌∙◌, sym, ap, rules}
use Rattle.rt1553_differ.specs.Told.{at_place, told_differences}
use Rattle.rt1553_differ.proofs.Lists.{row_step, row_end}
use Rattle.rt1553_differ.proofs.differing.push_row.Goals as goal

pub loop-n-preserved : goal.loop-n-preserved
loop-n-preserved c =
    row_step _ _ (at_place c.args.kind c.args.s) 33 _ _ _ _ (search rules)
    (c.in_ok-push_if.ensures ∙ ap (λ d. c.loop-n.list.items ++ told_differences c.args.p.now c.args.q.now (d ∷ [])) c.at_place.ensures.value) c.loop-n.invariant

pub returns : goal.returns
returns c = let left = c.loop-n-test.false in sym (row_end _ _ (at_place c.args.kind c.args.s) 33 c.loop-n.n _ (search rules)) ∙ c.loop-n.invariant
