use Rattle.std.proofs.Common.{subst, sym}
use Rattle.bus_legal.specs.Parts.{description_in}
use Rattle.terminal_exchanges.specs.Distinguish.{TellsApart}
use Rattle.bus_canon.specs.Difference.{AreAlike}
use Rattle.bus_canon.proofs.ApartLaws.{apart_by_shown}
use Rattle.bus_canon.proofs.apart.script_showing.Goals as goal

pub returns-then-nothing_hides-clause-apart : goal.returns-then-nothing_hides-clause-apart
returns-then-nothing_hides-clause-apart c =
    let other : AreAlike (description_in c.args.p.now) (description_in c.args.q.now) c.args.difference → ⊥ = λ alike. (let told = c.are_alike.ensures.1 alike in absurd (cc)) in
    subst (TellsApart (description_in c.args.p.now) (description_in c.args.q.now)) (sym c.script_for.ensures)
    (apart_by_shown c.args.p.now c.args.q.now c.args.difference c.setup.ensures.normal c.setup-2.ensures.normal other (c.nothing_hides.ensures.0 c.if-nothing_hides.true))
