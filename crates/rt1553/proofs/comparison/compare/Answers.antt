use Rattle.std.proofs.Common.{◌≡◌, refl, subst}
use Rattle.rt1553.specs.declared.comparison.Verdict.TheVariants as verdict
use Rattle.rt1553.specs.Load.{Reaches}
use Rattle.rt1553.proofs.CompareLaws.{are_same, are_different, right_is_exact}
use Rattle.rt1553.proofs.comparison.compare.Goals as goal

pub returns-in-None-clause-ok : goal.returns-in-None-clause-ok
returns-in-None-clause-ok c =
    let same : c.in_ok-p.p ≡ c.in_ok-q.q = c.in-None.ensures.same.0 refl in
    are_same c.args.first.now c.args.second.now c.in_ok-q.q c.in-None.ensures.normal_second (subst (Reaches c.args.first.now) same c.in_ok-p.ensures.ok) c.in_ok-q.ensures.ok

pub returns-in-Some-clause-ok : goal.returns-in-Some-clause-ok
returns-in-Some-clause-ok c =
    are_different c.args.first.now c.args.second.now c.in_ok-p.p c.in_ok-q.q c.in-Some.script.items c.in-Some.ensures.normal_first c.in-Some.ensures.normal_second
    c.in_ok-p.ensures.ok c.in_ok-q.ensures.ok c.in-Some.ensures.first c.in-Some.ensures.apart

pub returns-in-None-clause-exact : goal.returns-in-None-clause-exact
returns-in-None-clause-exact c = right_is_exact c.args.first.now c.args.second.now verdict.Same (returns-in-None-clause-ok c)

pub returns-in-Some-clause-exact : goal.returns-in-Some-clause-exact
returns-in-Some-clause-exact c = right_is_exact c.args.first.now c.args.second.now (verdict.Differ c.in-Some.script) (returns-in-Some-clause-ok c)
