use Rattle.std.proofs.Common.{◌≡◌, refl, subst}
use Rattle.rt1553.specs.declared.comparison.Verdict.TheVariants as verdict
use Rattle.rt1553.specs.Load.{Reaches}
use Rattle.rt1553.proofs.CompareLaws.{are_same, are_different, right_is_exact}
use Rattle.rt1553.proofs.comparison.compare_canonical.Goals as goal

pub returns-clause-ok : goal.returns-clause-ok
returns-clause-ok c =
    let same : c.in_ok-of_first.of_first ≡ c.in_ok-of_second.of_second = c.in_default.ensures.same.0 refl in
    are_same c.args.first.now c.args.second.now c.in_ok-of_second.of_second c.in_default.ensures.normal_second (subst (Reaches c.args.first.now) same c.in_ok-of_first.ensures.ok) c.in_ok-of_second.ensures.ok

pub returns-in-Some-clause-ok : goal.returns-in-Some-clause-ok
returns-in-Some-clause-ok c =
    are_different c.args.first.now c.args.second.now c.in_ok-of_first.of_first c.in_ok-of_second.of_second c.in-Some.script.items c.in-Some.ensures.normal_first c.in-Some.ensures.normal_second
    c.in_ok-of_first.ensures.ok c.in_ok-of_second.ensures.ok c.in-Some.ensures.first c.in-Some.ensures.apart

pub returns-clause-exact : goal.returns-clause-exact
returns-clause-exact c = right_is_exact c.args.first.now c.args.second.now verdict.Same (returns-clause-ok c)

pub returns-in-Some-clause-exact : goal.returns-in-Some-clause-exact
returns-in-Some-clause-exact c = right_is_exact c.args.first.now c.args.second.now (verdict.Differ c.in-Some.script) (returns-in-Some-clause-ok c)
