use Rattle.std.proofs.Common.{◌≡◌, ap, sym, ◌∙◌, subst}
use Rattle.rt1553_live.specs.State.{state_of}
use Rattle.rt1553_live.specs.Text.{StateText}
use Rattle.rt1553_live.proofs.StateLaws.{stands_alike}
use Rattle.rt1553_live.proofs.TextLaws.{one_state}
use Rattle.rt1553_live.specs.PlainAnswer.{answer_in}
use Rattle.rt1553_live.specs.Live.{AnswersAs}
use Rattle.rt1553_live.proofs.live.restore_live.Goals as goal

pub returns-in-Ok-new-clause-restored : goal.returns-in-Ok-new-clause-restored
returns-in-Ok-new-clause-restored c =
    let text = c.args.text.now in
    let u = c.in-Ok.terminal in
    let of = c.in-Ok.ensures in
    let same : c.in-Ok-new.live.value.terminal ≡ u = ap (λ x. x.terminal) c.in-Ok-new.ensures.ok ∙ c.unasked.ensures.terminal in
    record {
      state = subst (λ t. StateText (state_of t) text) (sym same) of.state;
      silent = ap (λ x. answer_in x.answer) c.in-Ok-new.ensures.ok ∙ c.unasked.ensures.silent;
      terminal = λ t is P h a. subst (λ v. AnswersAs P h v) (sym same) (record {
        own = a.own;
        stands = stands_alike t u a.made of.made (one_state (state_of t) (state_of u) text is of.state) a.own h a.stands;
        alike = a.alike;
        made = of.made;
      });
    }
