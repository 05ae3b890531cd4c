use Rattle.std.proofs.Common.{◌∙◌, ap, sym, Ok}
use Rattle.std.proofs.lemmas.Result.{err_from_is_err_and}
use Rattle.line_format.proofs.Steps.{then_ok, then_err}
use Rattle.line_format.specs.Views.{spot}
use Rattle.bus_legal.specs.Parts.{Parts}
use Rattle.bus_canon.specs.Canon.{canon}
use Rattle.bus_canon.proofs.CanonLaws.{read_normal}
use Rattle.bus_canon.proofs.read.text.Goals as goal

-- the lines before were read, and what comes next is
pub returns-in_err-version : goal.returns-in_err-version
unfolding canon
returns-in_err-version c =
    let r = c.from_residual in
    let p = err_from_is_err_and r.result r.ensures.1 in
    rw (p.1, p.2) (then_err _ _ _ _ c.in_err-version.ensures)

pub returns-in_err-address : goal.returns-in_err-address
unfolding canon
returns-in_err-address c =
    let r = c.from_residual-in_err-address in
    let p = err_from_is_err_and r.result r.ensures.1 in
    rw (p.1, p.2) (then_ok _ _ _ _ _ c.in_ok-version.ensures ∙ then_err _ _ _ _ c.in_err-address.ensures.answer)

pub returns-in_err-broadcast : goal.returns-in_err-broadcast
unfolding canon
returns-in_err-broadcast c =
    let r = c.from_residual-in_err-broadcast in
    let p = err_from_is_err_and r.result r.ensures.1 in
    rw (p.1, p.2) (then_ok _ _ _ _ _ c.in_ok-version.ensures ∙ then_ok _ _ _ _ _ c.in_ok-address.ensures.answer ∙ then_err _ _ _ _ c.in_err-broadcast.ensures)

pub returns-in_err-tables : goal.returns-in_err-tables
unfolding canon
returns-in_err-tables c =
    let r = c.from_residual-in_err-tables in
    let p = err_from_is_err_and r.result r.ensures.1 in
    rw (p.1, p.2) (then_ok _ _ _ _ _ c.in_ok-version.ensures ∙ then_ok _ _ _ _ _ c.in_ok-address.ensures.answer ∙ then_ok _ _ _ _ _ c.in_ok-broadcast.ensures ∙ then_err _ _ _ _ c.in_err-tables.ensures)

pub returns-in_err-accept : goal.returns-in_err-accept
unfolding canon
returns-in_err-accept c =
    let r = c.from_residual-in_err-accept in
    let p = err_from_is_err_and r.result r.ensures.1 in
    rw (p.1, p.2) (then_ok _ _ _ _ _ c.in_ok-version.ensures ∙ then_ok _ _ _ _ _ c.in_ok-address.ensures.answer ∙ then_ok _ _ _ _ _ c.in_ok-broadcast.ensures ∙ then_ok _ _ _ _ _ c.in_ok-tables.ensures ∙ then_err _ _ _ _ c.in_err-accept.ensures)

pub returns-in_err-vector : goal.returns-in_err-vector
unfolding canon
returns-in_err-vector c =
    let r = c.from_residual-in_err-vector in
    let p = err_from_is_err_and r.result r.ensures.1 in
    rw (p.1, p.2) (then_ok _ _ _ _ _ c.in_ok-version.ensures ∙ then_ok _ _ _ _ _ c.in_ok-address.ensures.answer ∙ then_ok _ _ _ _ _ c.in_ok-broadcast.ensures ∙ then_ok _ _ _ _ _ c.in_ok-tables.ensures ∙ then_ok _ _ _ _ _ c.in_ok-accept.ensures ∙ then_err _ _ _ _ c.in_err-vector.ensures)

pub returns-in_err-bit : goal.returns-in_err-bit
unfolding canon
returns-in_err-bit c =
    let r = c.from_residual-in_err-bit in
    let p = err_from_is_err_and r.result r.ensures.1 in
    rw (p.1, p.2) (then_ok _ _ _ _ _ c.in_ok-version.ensures ∙ then_ok _ _ _ _ _ c.in_ok-address.ensures.answer ∙ then_ok _ _ _ _ _ c.in_ok-broadcast.ensures ∙ then_ok _ _ _ _ _ c.in_ok-tables.ensures ∙ then_ok _ _ _ _ _ c.in_ok-accept.ensures ∙ then_ok _ _ _ _ _ c.in_ok-vector.ensures ∙ then_err _ _ _ _ c.in_err-bit.ensures)

pub returns-in_err-wrap : goal.returns-in_err-wrap
unfolding canon
returns-in_err-wrap c =
    let r = c.from_residual-in_err-wrap in
    let p = err_from_is_err_and r.result r.ensures.1 in
    rw (p.1, p.2) (then_ok _ _ _ _ _ c.in_ok-version.ensures ∙ then_ok _ _ _ _ _ c.in_ok-address.ensures.answer ∙ then_ok _ _ _ _ _ c.in_ok-broadcast.ensures ∙ then_ok _ _ _ _ _ c.in_ok-tables.ensures ∙ then_ok _ _ _ _ _ c.in_ok-accept.ensures ∙ then_ok _ _ _ _ _ c.in_ok-vector.ensures ∙ then_ok _ _ _ _ _ c.in_ok-bit.ensures ∙ then_err _ _ _ _ c.in_err-wrap.ensures.answer)

pub returns-in_err-initial : goal.returns-in_err-initial
unfolding canon
returns-in_err-initial c =
    let r = c.from_residual-in_err-initial in
    let p = err_from_is_err_and r.result r.ensures.1 in
    rw (p.1, p.2) (then_ok _ _ _ _ _ c.in_ok-version.ensures ∙ then_ok _ _ _ _ _ c.in_ok-address.ensures.answer ∙ then_ok _ _ _ _ _ c.in_ok-broadcast.ensures ∙ then_ok _ _ _ _ _ c.in_ok-tables.ensures ∙ then_ok _ _ _ _ _ c.in_ok-accept.ensures ∙ then_ok _ _ _ _ _ c.in_ok-vector.ensures ∙ then_ok _ _ _ _ _ c.in_ok-bit.ensures ∙ then_ok _ _ _ _ _ c.in_ok-wrap.ensures.answer ∙ then_err _ _ _ _ c.in_err-initial.ensures)

pub of-requires : goal.of-requires
unfolding canon
of-requires c = read_normal c.args.written _ _ _
    (then_ok _ _ _ _ _ c.in_ok-version.ensures
    ∙ then_ok _ _ _ _ _ c.in_ok-address.ensures.answer
    ∙ then_ok _ _ _ _ _ c.in_ok-broadcast.ensures
    ∙ then_ok _ _ _ _ _ c.in_ok-tables.ensures
    ∙ then_ok _ _ _ _ _ c.in_ok-accept.ensures
    ∙ then_ok _ _ _ _ _ c.in_ok-vector.ensures
    ∙ then_ok _ _ _ _ _ c.in_ok-bit.ensures
    ∙ then_ok _ _ _ _ _ c.in_ok-wrap.ensures.answer
    ∙ then_ok _ _ _ _ _ c.in_ok-initial.ensures)

pub returns : goal.returns
unfolding canon
returns c = then_ok _ _ _ _ _ c.in_ok-version.ensures
    ∙ then_ok _ _ _ _ _ c.in_ok-address.ensures.answer
    ∙ then_ok _ _ _ _ _ c.in_ok-broadcast.ensures
    ∙ then_ok _ _ _ _ _ c.in_ok-tables.ensures
    ∙ then_ok _ _ _ _ _ c.in_ok-accept.ensures
    ∙ then_ok _ _ _ _ _ c.in_ok-vector.ensures
    ∙ then_ok _ _ _ _ _ c.in_ok-bit.ensures
    ∙ then_ok _ _ _ _ _ c.in_ok-wrap.ensures.answer
    ∙ then_ok _ _ _ _ _ c.in_ok-initial.ensures
    ∙ ap (λ (v : Parts). Ok (v, spot c.in_ok-initial.lines)) (sym c.of.ensures)
