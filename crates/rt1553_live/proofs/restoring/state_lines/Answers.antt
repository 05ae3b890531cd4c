use Rattle.std.proofs.Common.{◌∙◌, ap, sym, Ok}
use Rattle.std.proofs.lemmas.Result.{err_from_is_err_and}
use Rattle.line_format.proofs.Steps.{then_ok, then_err}
use Rattle.line_format.specs.Views.{spot}
use Rattle.terminal_state.specs.Replies.{shown_reply}
use Rattle.rt1553_live.specs.State.{State}
use Rattle.rt1553_live.specs.Text.{saved}
use Rattle.rt1553_live.proofs.restoring.state_lines.Goals as goal

pub returns-in_err-lines-clause-state : goal.returns-in_err-lines-clause-state
unfolding saved
returns-in_err-lines-clause-state c =
    let r = c.from_residual in
    let p = err_from_is_err_and r.result r.ensures.1 in
    rw (p.1, p.2) (then_err _ _ _ _ c.in_err-lines.ensures)

pub returns-in_err-bits-clause-state : goal.returns-in_err-bits-clause-state
unfolding saved
returns-in_err-bits-clause-state c =
    let r = c.from_residual-in_err-bits in
    let p = err_from_is_err_and r.result r.ensures.1 in
    rw (p.1, p.2) (then_ok _ _ _ _ _ c.in_ok-lines.ensures ∙ then_err _ _ _ _ c.in_err-bits.ensures)

pub returns-in_err-registers-clause-state : goal.returns-in_err-registers-clause-state
unfolding saved
returns-in_err-registers-clause-state c =
    let r = c.from_residual-in_err-registers in
    let p = err_from_is_err_and r.result r.ensures.1 in
    rw (p.1, p.2) (then_ok _ _ _ _ _ c.in_ok-lines.ensures ∙ then_ok _ _ _ _ _ c.in_ok-bits.ensures ∙ then_err _ _ _ _ c.in_err-registers.ensures)

pub returns-in_err-reply-clause-state : goal.returns-in_err-reply-clause-state
unfolding saved
returns-in_err-reply-clause-state c =
    let r = c.from_residual-in_err-reply in
    let p = err_from_is_err_and r.result r.ensures.1 in
    rw (p.1, p.2) (then_ok _ _ _ _ _ c.in_ok-lines.ensures ∙ then_ok _ _ _ _ _ c.in_ok-bits.ensures ∙ then_ok _ _ _ _ _ c.in_ok-registers.ensures ∙ then_err _ _ _ _ c.in_err-reply.ensures)

pub returns-in-Err-clause-state : goal.returns-in-Err-clause-state
unfolding saved
returns-in-Err-clause-state c = then_ok _ _ _ _ _ c.in_ok-lines.ensures ∙ then_ok _ _ _ _ _ c.in_ok-bits.ensures ∙ then_ok _ _ _ _ _ c.in_ok-registers.ensures ∙ then_ok _ _ _ _ _ c.in_ok-reply.ensures ∙ then_err _ _ _ _ c.in-Err.ensures.answer

pub returns-in-Err-collected-clause-state : goal.returns-in-Err-collected-clause-state
unfolding saved
returns-in-Err-collected-clause-state c = then_ok _ _ _ _ _ c.in_ok-lines.ensures ∙ then_ok _ _ _ _ _ c.in_ok-bits.ensures ∙ then_ok _ _ _ _ _ c.in_ok-registers.ensures ∙ then_ok _ _ _ _ _ c.in_ok-reply.ensures ∙ then_ok _ _ _ _ _ c.in-Ok.ensures.answer ∙ then_err _ _ _ _ c.in-Err-collected.ensures.answer

pub returns-in_err-held-clause-state : goal.returns-in_err-held-clause-state
unfolding saved
returns-in_err-held-clause-state c =
    let r = c.from_residual-in_err-held in
    let p = err_from_is_err_and r.result r.ensures.1 in
    rw (p.1, p.2) (then_ok _ _ _ _ _ c.in_ok-lines.ensures ∙ then_ok _ _ _ _ _ c.in_ok-bits.ensures ∙ then_ok _ _ _ _ _ c.in_ok-registers.ensures ∙ then_ok _ _ _ _ _ c.in_ok-reply.ensures ∙ then_ok _ _ _ _ _ c.in-Ok.ensures.answer ∙ then_ok _ _ _ _ _ c.in-Ok-collected.ensures.answer ∙ then_err _ _ _ _ c.in_err-held.ensures)

pub returns-in-Err-canon_lines-clause-state : goal.returns-in-Err-canon_lines-clause-state
unfolding saved
returns-in-Err-canon_lines-clause-state c = then_ok _ _ _ _ _ c.in_ok-lines.ensures ∙ then_ok _ _ _ _ _ c.in_ok-bits.ensures ∙ then_ok _ _ _ _ _ c.in_ok-registers.ensures ∙ then_ok _ _ _ _ _ c.in_ok-reply.ensures ∙ then_ok _ _ _ _ _ c.in-Ok.ensures.answer ∙ then_ok _ _ _ _ _ c.in-Ok-collected.ensures.answer ∙ then_ok _ _ _ _ _ c.in_ok-held.ensures ∙ then_err _ _ _ _ c.in-Err-canon_lines.ensures

pub returns-clause-state : goal.returns-clause-state
unfolding saved
returns-clause-state c = then_ok _ _ _ _ _ c.in_ok-lines.ensures
    ∙ then_ok _ _ _ _ _ c.in_ok-bits.ensures
    ∙ then_ok _ _ _ _ _ c.in_ok-registers.ensures
    ∙ then_ok _ _ _ _ _ c.in_ok-reply.ensures
    ∙ then_ok _ _ _ _ _ c.in-Ok.ensures.answer
    ∙ then_ok _ _ _ _ _ c.in-Ok-collected.ensures.answer
    ∙ then_ok _ _ _ _ _ c.in_ok-held.ensures
    ∙ then_ok _ _ _ _ _ c.in-Ok-canon_lines.ensures
    ∙ ap (λ (s : State). Ok (s, spot c.in-Ok-canon_lines.read.1)) (sym (c.terminal_of-terminal.ensures.state ∙ (λ j. record {
      bits = c.in_ok-bits.bits;
      registers = c.in_ok-registers.registers;
      reply = shown_reply c.in_ok-reply.reply;
      message = c.in_progress_of.ensures.message j;
      words = c.in_progress_of.ensures.words j;
      held = c.in_ok-held.held;
      parts = c.in-Ok-canon_lines.read.0;
    })))
