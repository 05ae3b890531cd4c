use Rattle.std.proofs.Common.{◌∙◌}
use Rattle.std.proofs.lemmas.Result.{err_from_is_err_and}
use Rattle.line_format.proofs.Steps.{then_ok, then_err}
use Rattle.bus_canon.specs.Canon.{cells}
use Rattle.bus_canon.proofs.cell_lines.cells.Goals as goal

-- the lines before were read, and what comes next is
pub returns-in_err-own_receive : goal.returns-in_err-own_receive
unfolding cells
returns-in_err-own_receive c =
    let r = c.from_residual in
    let p = err_from_is_err_and r.result r.ensures.1 in
    rw (p.1, p.2) (then_err _ _ _ _ c.in_err-own_receive.ensures)

pub returns-in_err-own_transmit : goal.returns-in_err-own_transmit
unfolding cells
returns-in_err-own_transmit c =
    let r = c.from_residual-in_err-own_transmit in
    let p = err_from_is_err_and r.result r.ensures.1 in
    rw (p.1, p.2) (then_ok _ _ _ _ _ c.in_ok-own_receive.ensures ∙ then_err _ _ _ _ c.in_err-own_transmit.ensures)

pub returns-in_err-broadcast_receive : goal.returns-in_err-broadcast_receive
unfolding cells
returns-in_err-broadcast_receive c =
    let r = c.from_residual-in_err-broadcast_receive in
    let p = err_from_is_err_and r.result r.ensures.1 in
    rw (p.1, p.2) (then_ok _ _ _ _ _ c.in_ok-own_receive.ensures ∙ then_ok _ _ _ _ _ c.in_ok-own_transmit.ensures ∙ then_err _ _ _ _ c.in_err-broadcast_receive.ensures)

pub returns-in_err-own_mode : goal.returns-in_err-own_mode
unfolding cells
returns-in_err-own_mode c =
    let r = c.from_residual-in_err-own_mode in
    let p = err_from_is_err_and r.result r.ensures.1 in
    rw (p.1, p.2) (then_ok _ _ _ _ _ c.in_ok-own_receive.ensures ∙ then_ok _ _ _ _ _ c.in_ok-own_transmit.ensures ∙ then_ok _ _ _ _ _ c.in_ok-broadcast_receive.ensures ∙ then_err _ _ _ _ c.in_err-own_mode.ensures)

pub returns-in_err-broadcast_mode : goal.returns-in_err-broadcast_mode
unfolding cells
returns-in_err-broadcast_mode c =
    let r = c.from_residual-in_err-broadcast_mode in
    let p = err_from_is_err_and r.result r.ensures.1 in
    rw (p.1, p.2) (then_ok _ _ _ _ _ c.in_ok-own_receive.ensures ∙ then_ok _ _ _ _ _ c.in_ok-own_transmit.ensures ∙ then_ok _ _ _ _ _ c.in_ok-broadcast_receive.ensures ∙ then_ok _ _ _ _ _ c.in_ok-own_mode.ensures ∙ then_err _ _ _ _ c.in_err-broadcast_mode.ensures)

pub returns : goal.returns
unfolding cells
returns c = then_ok _ _ _ _ _ c.in_ok-own_receive.ensures ∙ then_ok _ _ _ _ _ c.in_ok-own_transmit.ensures ∙ then_ok _ _ _ _ _ c.in_ok-broadcast_receive.ensures ∙ then_ok _ _ _ _ _ c.in_ok-own_mode.ensures ∙ then_ok _ _ _ _ _ c.in_ok-broadcast_mode.ensures
