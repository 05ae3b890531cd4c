-- What is answered to one exchange, after exchanges alone, over the history of events.
use Rattle.std.proofs.Common.{◌≡◌, ℕ, zero, suc, Bool, true, false, if◌then◌else◌, Option, Some, None, List, ◌∷◌, refl, ap, sym, ◌∙◌}
use Rattle.bus_word.specs.declared.word.Bus.TheVariants.{A}
use Rattle.bus_legal.specs.Description.{Description}
use Rattle.terminal_rules.specs.declared.event.Event.{Event}
use Rattle.terminal_rules.specs.declared.event.Event.TheVariants.{Gap, Slot}
use Rattle.terminal_rules.specs.History.{Replying, Ending, Nothing}
use Rattle.terminal_rules.specs.Reply.{words_after_status, reply_after, reply_now}
use Rattle.terminal_rules.specs.Turn.{is_answered, done_cell}
use Rattle.terminal_rules.specs.Past.{past}
use Rattle.terminal_rules.specs.Out.{Out, Silence, hands, handing_over, sends, sending_out, outs_from}
use Rattle.terminal_rules.specs.Steps.{sent_one, begun_if}
use Rattle.terminal_rules.proofs.ReplyLaw.{no_words, next_of, reply_slot_law}
use Rattle.terminal_exchanges.specs.Exchanges.{Exchange, command_event, exchange_then, slots_then}
use Rattle.terminal_exchanges.specs.ExchangeLaws.{AreWhole, AreAnswered, after_slots, before_its_gap, history_of, end_of, ending_of_exchange, silent_then, silent_slots, reply_to, reply_then, MeantExchangeLaw, UnmeantExchangeLaw}
use Rattle.terminal_exchanges.proofs.Notes.{notes_at_gap, exchange_notes, gap_answer}
use Rattle.terminal_exchanges.proofs.ExchangeLaw.{notes_law, idle_law, idle_past, gap_past, at_gap_reply, answer_law, words_silent, unmeant_end}
use Rattle.terminal_exchanges.proofs.Distinguish.Quiet.{on_at}

-- one word more of the reply
next_reply : (x : Ending) (k : ℕ) → sent_one (reply_to x k) ≡ reply_to x (suc k)
next_reply x k = by_answer (is_answered false x)
  where
    by_answer : (a : Bool) → sent_one (if a then reply_after A (done_cell x) false k else None) ≡ (if a then reply_after A (done_cell x) false (suc k) else None)
    by_answer true = sym (next_of A (done_cell x) false k)
    by_answer false = refl

slots_reply : (P : Description) (x : Ending) (k n : ℕ) (h es : List Event) → reply_now (past P h) ≡ reply_to x k →
    outs_from P h (slots_then n es) ≡ reply_then P x k n h (outs_from P (after_slots n h) es)
slots_reply P x k zero h es e = refl
slots_reply P x k (suc n) h es e =
    (λ j. sending_out (sends P (past P h) (e j)) ∷ slots_reply P x (suc k) n (Slot ∷ h) es (reply_slot_law (past P h) (reply_now (past P h)) Nothing ∙ (ap sent_one e ∙ next_reply x k)) j)

begun_is : (x : Ending) → (let none : Option Replying = None in begun_if (is_answered false x) A (done_cell x) none) ≡ reply_to x 0
begun_is x = by_answer (is_answered false x)
  where
    by_answer : (a : Bool) → (let none : Option Replying = None in begun_if a A (done_cell x) none) ≡ (if a then reply_after A (done_cell x) false 0 else None)
    by_answer true = ap (λ t. if t then Some (record { bus = A; cell = done_cell x; number = 0 }) else None) (sym (no_words (words_after_status (done_cell x))))
    by_answer false = refl

-- the reply at the gap of an exchange
gap_reply : (P : Description) (xs : List Exchange) (x : Exchange) → AreWhole (x ∷ xs) → AreAnswered P xs →
    reply_now (past P (Gap A ∷ before_its_gap x (history_of xs))) ≡ reply_to (ending_of_exchange P x) 0
gap_reply P xs x (w, ws) a =
    let before : past P (history_of xs) ≡ exchange_notes P xs = notes_law P xs ws a in
    let e : Ending = ending_of_exchange P x in
    ap reply_now (gap_past P x (history_of xs) (idle_past P xs ws a) w ∙ ap (notes_at_gap P x) before)
    ∙ (at_gap_reply P x (exchange_notes P xs) (idle_law P xs a)
    ∙ (ap (λ off. let none : Option Replying = None in begun_if (is_answered off e) A (done_cell e) none) (on_at P xs x)
    ∙ begun_is e))

-- each exchange, by how it ends
answered : (P : Description) (xs : List Exchange) (x : Exchange) (es : List Event) → AreWhole (x ∷ xs) → AreAnswered P xs →
    outs_from P (history_of xs) (exchange_then x es)
    ≡ Silence ∷ silent_then x.words
    (gap_answer P x ∷ reply_then P (ending_of_exchange P x) 0 x.slots (Gap A ∷ before_its_gap x (history_of xs)) (outs_from P (history_of (x ∷ xs)) es))
answered P xs x es w a =
    let h : List Event = before_its_gap x (history_of xs) in
    ap (λ os. Silence ∷ os)
    (words_silent P x.words (command_event x.command ∷ history_of xs) (Gap A ∷ slots_then x.slots es)
    ∙ ap (silent_then x.words)
    (λ j. answer_law P xs x w a j ∷ slots_reply P (ending_of_exchange P x) 0 x.slots (Gap A ∷ h) es (gap_reply P xs x w a) j))

pub meant_exchange_law : MeantExchangeLaw
meant_exchange_law P xs x es w a m =
    let e : ending_of_exchange P x ≡ end_of P x = ap (λ m. if m then end_of P x else Nothing) m in
    answered P xs x es w a
    ∙ ap (λ y. Silence ∷ silent_then x.words (handing_over (hands P y) ∷ reply_then P y 0 x.slots (Gap A ∷ before_its_gap x (history_of xs)) (outs_from P (history_of (x ∷ xs)) es))) e

-- where no reply began, slots are silent
no_reply : (P : Description) (k n : ℕ) (h : List Event) (os : List Out) → reply_then P Nothing k n h os ≡ silent_slots n os
no_reply P k zero h os = refl
no_reply P k (suc n) h os = ap (λ os. Silence ∷ os) (no_reply P (suc k) n (Slot ∷ h) os)

pub unmeant_law : UnmeantExchangeLaw
unmeant_law P xs x es w a m =
    let os : List Out = outs_from P (history_of (x ∷ xs)) es in
    let h : List Event = Gap A ∷ before_its_gap x (history_of xs) in
    answered P xs x es w a
    ∙ (ap (λ y. Silence ∷ silent_then x.words (handing_over (hands P y) ∷ reply_then P y 0 x.slots h os)) (unmeant_end P x m)
    ∙ ap (λ rest. Silence ∷ silent_then x.words (Silence ∷ rest)) (no_reply P 0 x.slots h os))
