use Rattle.std.proofs.Common.{◌∷◌, [], ◌++◌, ◌∙◌, sym, ap, rules}
use Rattle.rt1553_differ.specs.Told.{of_code, told_differences}
use Rattle.rt1553_differ.proofs.Lists.{row_step, row_end}
use Rattle.rt1553_differ.proofs.differing.push_codes.Goals as goal

pub loop-code-preserved : goal.loop-code-preserved
loop-code-preserved c =
    row_step _ _ (of_code c.args.broadcast) 32 _ _ _ _ (search rules)
    (c.in_ok-push_if.ensures ∙ ap (λ d. c.loop-code.list.items ++ told_differences c.args.p.now c.args.q.now (d ∷ [])) c.of_code.ensures.value) c.loop-code.invariant

pub returns : goal.returns
returns c = let left = c.loop-code-test.false in sym (row_end _ _ (of_code c.args.broadcast) 32 c.loop-code.code _ (search rules)) ∙ c.loop-code.invariant
