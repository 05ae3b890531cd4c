use Rattle.std.proofs.Common.{◌≡◌, ◌↔◌, true, false, IsTrue, length, get_or, replicate, ap, subst, sym, ◌∙◌, arith, rules}
use Rattle.terminal_rules.specs.Same.{Same}
use Rattle.bus_legal.specs.Meaning.{description_of}
use Rattle.spare_entries.specs.Without.{without_rule}
use Rattle.spare_entries.proofs.Marks.{written, all_marked, all_tests}
use Rattle.spare_entries.proofs.RuleLaws.{spare_rule}
use Rattle.spare_entries.proofs.rules.spare_rules.Goals as goal

pub returns-clause-each : goal.returns-clause-each
returns-clause-each c =
    let p = c.args.profile.now in
    let marks = c.in_ok-spares.spares in
    let many = length c.as_slice.result.now in
    let is : c.deref_mut.result.now ≡ replicate many true = c.deref_mut.ensures.value ∙ c.in_ok-spares.ensures.items_if_clones_equal (λ y e. e) in
    let all = written marks.len c.unmark_all.new.spares marks.items (search rules) (search rules) in
    λ k l. subst (λ ms. IsTrue (get_or ms k false) ↔ Same (description_of p) (without_rule p k)) (sym all)
    (all_tests _ (get_or c.deref_mut.result.now k false) _ _ (all_marked many k c.deref_mut.result.now is (omega (arith, l, ap length c.as_slice.ensures))) (c.in_ok-unmark_all.ensures k l) (spare_rule p k))
