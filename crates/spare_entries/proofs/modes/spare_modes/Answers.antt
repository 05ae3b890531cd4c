use Rattle.std.proofs.Common.{◌≡◌, ◌↔◌, true, false, IsTrue, length, get_or, replicate, ap, subst, sym, ◌∙◌, arith, rules}
use Rattle.spare_entries.specs.Without.{IsSpareMode}
use Rattle.spare_entries.proofs.Marks.{written, all_marked, all_tests}
use Rattle.spare_entries.proofs.ModeLaws.{spare_mode}
use Rattle.spare_entries.proofs.modes.spare_modes.Goals as goal

pub returns-clause-each : goal.returns-clause-each
returns-clause-each c =
    let p = c.args.profile.now in
    let marks = c.in_ok-spares.spares in
    let many = length c.as_slice.result.now in
    let is : c.deref_mut.result.now ≡ replicate many true = c.deref_mut.ensures.value ∙ c.in_ok-spares.ensures.items_if_clones_equal (λ y e. e) in
    let all = written marks.len c.unmark_all.new.spares marks.items (search rules) (search rules) in
    λ k l. subst (λ ms. IsTrue (get_or ms k false) ↔ IsSpareMode p k) (sym all)
    (all_tests _ (get_or c.deref_mut.result.now k false) _ _ (all_marked many k c.deref_mut.result.now is (omega (arith, l, ap length c.as_slice.ensures))) (c.in_ok-unmark_all.ensures k l) (spare_mode p k))
