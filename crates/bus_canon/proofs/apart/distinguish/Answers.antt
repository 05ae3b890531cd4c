use Rattle.std.proofs.Common.{refl, subst, sym}
use Rattle.bus_legal.specs.Parts.{description_in}
use Rattle.terminal_exchanges.specs.Distinguish.{TellsApart}
use Rattle.bus_canon.proofs.ApartLaws.{apart_by_first, equal_by_all, apart_unequal}
use Rattle.bus_canon.proofs.apart.distinguish.Goals as goal

pub returns-in-Some-clause-apart : goal.returns-in-Some-clause-apart
returns-in-Some-clause-apart c =
    subst (TellsApart (description_in c.args.p.now) (description_in c.args.q.now)) (sym c.script_for.ensures)
    (apart_by_first c.args.p.now c.args.q.now c.in-Some.difference c.setup.ensures.normal c.setup-2.ensures.normal c.in-Some.ensures.0)

pub returns-in-Some-clause-same : goal.returns-in-Some-clause-same
returns-in-Some-clause-same c = (
  λ none. cc,
  λ same. absurd (apart_unequal c.args.p.now c.args.q.now c.in-Some.difference c.setup.ensures.normal c.setup-2.ensures.normal c.in-Some.ensures.0 same),
)

pub returns-in-None-clause-same : goal.returns-in-None-clause-same
returns-in-None-clause-same c = (
  λ _. equal_by_all c.args.p.now c.args.q.now c.setup.ensures.normal c.setup-2.ensures.normal c.in-None.ensures,
  λ _. refl,
)
