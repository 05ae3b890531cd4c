use Rattle.std.proofs.Common.{◌≡◌, ◌+◌, ◌-◌, [], ◌∷◌, length, get_or, ap, ◌∙◌, arith}
use Rattle.terminal_state.specs.Replies.{shown_reply}
use Rattle.rt1553_live.specs.State.{saved_message, saved_words, held_from}
use Rattle.rt1553_live.proofs.StateLaws.{held_all}
use Rattle.rt1553_live.proofs.restoring.terminal_of.Goals as goal

pub returns-clause-state : goal.returns-clause-state
returns-clause-state c =
    let k = c.keeping.ensures in
    let r = c.registers_of.ensures in
    let blocks = c.args.held.now in
    let long : length blocks ≡ 30 = omega (arith, c.told-held) in
    let held = ap (λ h. held_from h 1 30) k.held
    ∙ held_all c.holding.result blocks 1 30 (λ i l. c.holding.ensures.words (1 + i) (omega arith) (omega arith) ∙ ap (λ n. get_or blocks n []) (let same : 1 + i - 1 ≡ i = omega arith in same)) long in
    λ j. record {
      bits = record {
        heard = k.heard j;
        flags = (ap (λ x. x.flags) k.registers ∙ r.flags) j;
        inhibited = (ap (λ x. x.inhibited) k.registers ∙ r.inhibited) j;
        off = (ap (λ x. x.off) k.registers ∙ r.off) j;
        status = (ap (λ x. x.kept) k.registers ∙ r.kept) j;
      };
      registers = (ap (λ x. x.vector ∷ x.bit ∷ x.last ∷ []) k.registers ∙ r.words) j;
      reply = ap shown_reply k.reply j;
      message = ap (λ p. saved_message p.message p.words.items) k.in_progress j;
      words = ap (λ p. saved_words p.message p.words.items) k.in_progress j;
      held = held j;
      parts = k.legality j;
    }
