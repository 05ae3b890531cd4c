use Rattle.std.proofs.Common.{◌≡◌, ◌++◌, ◌==◌, [], ◌∷◌, codes, length, append_assoc, ap, sym, ◌∙◌, refl, subst, lit<}
use Rattle.line_format.specs.Format.{Spells}
use Rattle.line_format.specs.Shapes.{number_field, words_line}
use Rattle.line_format.proofs.Writes.{number_text, number_spelled}
use Rattle.bus_canon.specs.Canon.{is_written, canon}
use Rattle.terminal_state.specs.Replies.{shown_reply}
use Rattle.rt1553_live.specs.State.{state_of, saved_message, saved_words, held_from}
use Rattle.rt1553_live.specs.Text.{bits_line, reply_line, message_line, held_lines}
use Rattle.rt1553_live.proofs.TextLaws.{StateLines, state_spelled}
use Rattle.rt1553_live.proofs.StateLaws.{counted}
use Rattle.rt1553_live.proofs.saving.put_state.Goals as goal

pub returns : goal.returns
returns c =
    let t = c.args.terminal.now in
    let kept = c.kept-kept.ensures in
    let m = t.in_progress.message in
    let ds = t.in_progress.words.items in
    let head = number_text (codes "rt1553-state") (number_field 10 1) 1 in
    let bits = c.in_ok-put_bits.ensures in
    let registers = c.in_ok-put_words_line.ensures in
    let reply = c.in_ok-put_reply.ensures in
    let message = c.in_ok-put_message.ensures in
    let words = c.in_ok-put_words_line-2.ensures in
    let held = c.in_ok-put_held.ensures in
    let text = c.in_ok-put_canon.ensures in
    let same_words : c.words_of.result.now ≡ saved_words m ds = c.words_of.ensures ∙ ap (λ p. saved_words p.message p.words.items) kept.in_progress in
    let lines : StateLines (state_of t) (head ++ (bits.0 ++ (registers.0 ++ (reply.0 ++ (message.0 ++ (words.0 ++ (held.0 ++ text.0))))))) = record {
      version = 1;
      head = head;
      bits = bits.0;
      registers = registers.0;
      reply = reply.0;
      message = message.0;
      words = words.0;
      held = held.0;
      text = text.0;
      is = refl;
      head_is = number_spelled (codes "rt1553-state") (number_field 10 1) (λ n. n == 1) 1 (lit< tt) refl;
      bits_are = subst (λ b. Spells bits_line b bits.0) c.kept_bits.ensures bits.2;
      registers_are = subst (λ ws. Spells (words_line (codes "registers") 1 (length ws)) ws registers.0) (c.register_words.ensures ∙ ap (λ r. r.vector ∷ r.bit ∷ r.last ∷ []) kept.registers) registers.2;
      reply_is = subst (λ r. Spells reply_line (shown_reply r) reply.0) kept.reply reply.2;
      message_is = subst (λ m. Spells message_line m message.0) (c.message_of.ensures.message ∙ ap (λ p. saved_message p.message p.words.items) kept.in_progress) message.2;
      words_are = subst (λ n. Spells (words_line (codes "words") 1 n) (saved_words m ds) words.0) (sym (counted m ds)) (subst (λ ws. Spells (words_line (codes "words") 1 (length ws)) ws words.0) same_words words.2);
      held_are = subst (λ h. Spells (held_lines 1 30) (held_from h 1 30) held.0) kept.held held.2;
      text_is = subst (λ v. Spells (canon is_written) v text.0) c.legality.ensures text.2;
    } in
    (_, simp (text.1, held.1, words.1, message.1, reply.1, registers.1, bits.1, c.in_ok-put_number_line.ensures, append_assoc), state_spelled (state_of t) _ lines)
