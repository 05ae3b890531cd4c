use Rattle.std.proofs.Common.{◌≡◌, ◌++◌, ◌≤◌, ℕ, List, subst, sym, ◌∙◌, ap, length}
use Rattle.rt1553_live.specs.State.{state_of}
use Rattle.rt1553_live.specs.Text.{StateText}
use Rattle.rt1553_live.proofs.StateLaws.{stands_alike}
use Rattle.rt1553_live.proofs.TextLaws.{state_size, one_state}
use Rattle.rt1553_live.proofs.saving.save.Goals as goal

pub returns-clause-size : goal.returns-clause-size
returns-clause-size c =
    let written = c.in_ok-put_state.ensures in
    let all : c.put_state.new.out.items ≡ written.0 = written.1 ∙ ap (λ (out : List ℕ). out ++ written.0) c.in_ok-out.ensures.items in
    subst (λ bytes. length bytes ≤ 13028) (sym all) (state_size (state_of c.args.terminal.now) written.0 written.2)

pub returns-clause-resumes : goal.returns-clause-resumes
returns-clause-resumes c u made is P h s =
    let t = c.args.terminal.now in
    let written = c.in_ok-put_state.ensures in
    let all : c.put_state.new.out.items ≡ written.0 = written.1 ∙ ap (λ (out : List ℕ). out ++ written.0) c.in_ok-out.ensures.items in
    let text : StateText (state_of t) c.put_state.new.out.items = subst (λ bytes. StateText (state_of t) bytes) (sym all) written.2 in
    stands_alike t u c.requires made (one_state (state_of t) (state_of u) _ text is) P h s
