use Rattle.std.proofs.Common.{◌<◌, ◌*◌, length, subst}
use Rattle.std.proofs.lemmas.Result.{err_from_is_err_and}
use Rattle.recorded_terminal.specs.inner.Steps.{Splits}
use Rattle.recorded_terminal.specs.Marks.{most_ways}
use Rattle.recorded_terminal.proofs.WayLaws.{steps_split}
use Rattle.recorded_terminal.proofs.ways.see.Goals as goal

pub returns-in_ok-ways-in-Some-clause-sees : goal.returns-in_ok-ways-in-Some-clause-sees
returns-in_ok-ways-in-Some-clause-sees g c P h ms low ways =
    let legal = g.L.Legality.is_legal in
    steps_split legal P h ms c.args.marked.now c.in-Some.bus c.args.status c.args.ways.now.items c.in_ok-ways-in-Some.field-0.items low (c.maybe_gap.ensures.some c.in-Some.bus c.in-Some.is) ways
    (subst (λ ws. Splits legal c.in-Some.bus c.args.status ws c.in_ok-ways-in-Some.field-0.items) c.as_slice-then-not-all_pass.ensures.value c.in_ok-ways-in-Some.ensures.splits)

pub returns-else-not-all_pass-clause-sees : goal.returns-else-not-all_pass-clause-sees
returns-else-not-all_pass-clause-sees g c P h ms low ways =
    let legal = g.L.Legality.is_legal in
    steps_split legal P h ms c.args.marked.now c.in-Some.bus c.args.status c.args.ways.now.items c.args.ways.now.items low (c.maybe_gap.ensures.some c.in-Some.bus c.in-Some.is) ways
    (subst (λ ws. Splits legal c.in-Some.bus c.args.status ws ws) c.as_slice.ensures.value (c.all_pass.ensures c.if-not-all_pass.false c.args.status))

pub returns-in_ok-see_certain-in-None-clause-sees : goal.returns-in_ok-see_certain-in-None-clause-sees
returns-in_ok-see_certain-in-None-clause-sees g c P h ms low ways = c.in_ok-see_certain-in-None.ensures P h ms low (c.maybe_gap.ensures.none c.in-None.is) ways

pub returns-in_err-ways-in-Some-clause-refused : goal.returns-in_err-ways-in-Some-clause-refused
returns-in_err-ways-in-Some-clause-refused g c =
    let p = err_from_is_err_and c.from_residual.result c.from_residual.ensures.1 in
    rw (p.1, p.2) (λ same. (
      (c.in-Some.bus, c.maybe_gap.ensures.some c.in-Some.bus c.in-Some.is),
      subst (λ ws. most_ways < 2 * length ws) c.as_slice-then-not-all_pass.ensures.value (c.in_err-ways-in-Some.ensures.refused same),
    ))
