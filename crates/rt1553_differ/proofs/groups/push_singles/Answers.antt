use Rattle.std.proofs.Common.{◌≡◌, [], drop, sym, ◌∙◌}
use Rattle.std.proofs.lemmas.List.{drop_all}
use Rattle.rt1553_differ.proofs.GroupLaws.{singles_step, singles_end}
use Rattle.rt1553_differ.proofs.groups.push_singles.Goals as goal

pub loop-difference-preserved : goal.loop-difference-preserved
loop-difference-preserved c = singles_step c.args.p.now c.args.behind c.args.found.now c.loop-difference.difference-index _ _ _ _ c.loop-difference-test.true c.in_ok-push_single.ensures c.loop-difference.invariant

pub returns : goal.returns
returns c =
    let none : drop c.loop-difference.difference-index c.args.found.now ≡ [] = drop_all _ _ c.loop-difference-test.false in
    sym (singles_end c.args.p.now c.args.behind c.loop-difference.groups.items _ none) ∙ c.loop-difference.invariant
