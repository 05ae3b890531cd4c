use Rattle.std.proofs.Common.{refl, ap, sym, ◌∙◌}
use Rattle.terminal_rules.specs.Out.{sending_out}
use Rattle.terminal_state.proofs.CanSendLaw.{can_send_law}
use Rattle.bus_terminal.proofs.StandsLaw.{gap_stands, slot_stands}
use Rattle.bus_terminal.proofs.AnswerLaw.{gap_answers, slot_answers}
use Rattle.bus_terminal.proofs.terminal.Terminal.step.Goals as goal

pub returns-else-replies_on : goal.returns-else-replies_on
returns-else-replies_on g c =
    let is_legal = g.L.Legality.is_legal in
    let t = c.args.self.now in
    let u = c.take_gap-ended.new.self in
    let heard = sym c.replies_on.ensures ∙ c.if-replies_on.false in (
      (refl, λ _. tt, (λ P h s. rw c.in-Gap.is (gap_stands is_legal P h c.in-Gap.bus t u heard s c.take_gap-ended.ensures.takes), c.take_gap-ended.ensures.takes.settles.setup.legality, c.take_gap-ended.ensures.takes.settles.setup.description)),
      record {
        answer = λ P h s. rw c.in-Gap.is (gap_answers is_legal P h c.in-Gap.bus t u _ _ heard s c.take_gap-ended.ensures.takes.settles.setup c.take_gap-ended.ensures.ending c.handed.ensures.answer);
        stands = tt;
        small = c.handed.ensures.small;
      },
    )

pub returns-in-Some : goal.returns-in-Some
returns-in-Some g c =
    let is_legal = g.L.Legality.is_legal in
    let t = c.args.self.now in (
      (refl, λ _. tt, (λ P h s. rw c.in-Slot.is (slot_stands is_legal P h t c.take_slot.new.self s c.take_slot.ensures.takes), c.take_slot.ensures.takes.setup.legality, c.take_slot.ensures.takes.setup.description)),
      record {
        answer = λ P h s. rw c.in-Slot.is (ap sending_out (c.in-Some.ensures.sent (can_send_law t.reply)) ∙ slot_answers is_legal P h t s);
        stands = tt;
        small = tt;
      },
    )

pub returns-in-None : goal.returns-in-None
returns-in-None g c =
    let is_legal = g.L.Legality.is_legal in
    let t = c.args.self.now in (
      (refl, λ _. tt, (λ P h s. rw c.in-Slot.is (slot_stands is_legal P h t c.take_slot.new.self s c.take_slot.ensures.takes), c.take_slot.ensures.takes.setup.legality, c.take_slot.ensures.takes.setup.description)),
      record {
        answer = λ P h s. rw c.in-Slot.is (ap sending_out (c.in-None.ensures.sent (can_send_law t.reply)) ∙ slot_answers is_legal P h t s);
        stands = tt;
        small = tt;
      },
    )
