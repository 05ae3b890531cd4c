use Rattle.std.proofs.Common.{ℕ, ◌∙◌, ap, sym, Ok}
use Rattle.std.proofs.lemmas.Result.{err_from_is_err_and}
use Rattle.line_format.specs.Views.{spot}
use Rattle.line_format.proofs.Steps.{then_ok, then_err}
use Rattle.bus_canon.proofs.asked.wrap_bit.Goals as goal

pub returns-in_err-on-clause-answer : goal.returns-in_err-on-clause-answer
returns-in_err-on-clause-answer c =
    let r = c.from_residual in
    let p = err_from_is_err_and r.result r.ensures.1 in
    rw (p.1, p.2) (then_err _ _ _ _ c.in_err-on.ensures)

pub returns-clause-answer : goal.returns-clause-answer
returns-clause-answer c = then_ok _ _ _ _ _ c.in_ok-on.ensures ∙ ap (λ (n : ℕ). Ok (n, spot c.in_ok-on.lines)) (sym c.switched.ensures.value)
