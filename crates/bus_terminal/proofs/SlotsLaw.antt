-- Slots one after another: what they leave as it was, and the data words that are sent in them.
use Rattle.std.proofs.Common.{◌≡◌, ℕ, zero, suc, ◌<◌, ◌≤◌, ◌+◌, ◌-◌, Bool, true, false, ◌&&◌, ◌==◌, nat_le, if◌then◌else◌, Option, Some, None, is_some, List, [], ◌∷◌, length, take, drop, get_or, get_or-take, get_or-drop, refl, ap, sym, ◌∙◌, arith}
use Rattle.std.proofs.lemmas.Grind.{common_steps}
use Rattle.std.proofs.lemmas.Bool.Decides.{nat_tests}
use Rattle.bus_word.specs.declared.word.Bus.{Bus}
use Rattle.bus_word.specs.declared.word.Kind.TheVariants.{Com, Dat}
use Rattle.bus_word.specs.declared.cell.Cell.{Cell}
use Rattle.bus_word.specs.declared.cell.Cell.TheVariants.{OwnReceive, OwnTransmit, BroadReceive, OwnMode, BroadMode}
use Rattle.bus_word.specs.Cell.{is_data_place}
use Rattle.bus_word.specs.Status.{status_word}
use Rattle.bus_legal.specs.Description.{Description}
use Rattle.terminal_rules.specs.declared.event.Event.{Event}
use Rattle.terminal_rules.specs.declared.event.Event.TheVariants.{Slot}
use Rattle.terminal_rules.specs.History.{Replying, Noted, Nothing}
use Rattle.terminal_rules.specs.Open.{open_now}
use Rattle.terminal_rules.specs.Reply.{words_after_status, reply_now}
use Rattle.terminal_rules.specs.SinceReset.{is_status_of_reset, held_now}
use Rattle.terminal_rules.specs.Status.{kept_now}
use Rattle.terminal_rules.specs.Past.{past, history_after}
use Rattle.terminal_rules.specs.Out.{sending, sending_out, sends, SendsWord, out}
use Rattle.terminal_rules.specs.Steps.{sent_one, resets_next}
use Rattle.terminal_rules.proofs.OpenLaw.{slot_law}
use Rattle.terminal_rules.proofs.ReplyLaw.{reply_slot_law}
use Rattle.terminal_state.specs.declared.reply.Reply.{Reply}
use Rattle.terminal_state.specs.Standing.{standing_of}
use Rattle.terminal_state.specs.Registers.{registers_now, reset_if}
use Rattle.terminal_state.specs.Held.{block_in}
use Rattle.terminal_state.specs.Replies.{shown_reply, sent_many}
use Rattle.terminal_state.proofs.SentLaw.{sent_none, sent_law}
use Rattle.bus_terminal.specs.declared.terminal.Terminal.{Terminal}
use Rattle.bus_terminal.specs.Stands.{StandsAt, heard_on_buses}
use Rattle.bus_terminal.specs.Slots.{slots, SlotsAreSilent, words_left, AreSent}
use Rattle.bus_terminal.specs.inner.Terminal.{TakesSlot}
use Rattle.bus_terminal.proofs.StandsLaw.{heard_slot, registers_slot, held_slot_law, slot_stands}

not_first : (m : ℕ) → (suc m == 0) ≡ false
not_first m = grind (arith, nat_tests)

-- behind a slot no status is sent, and so none of a reset
no_status : (cell : Option Cell) (m : ℕ) → is_status_of_reset (suc m) cell ≡ false
no_status None m = refl
no_status (Some (OwnReceive s n)) m = refl
no_status (Some (OwnTransmit s n)) m = refl
no_status (Some (BroadReceive s n)) m = refl
no_status (Some (OwnMode code)) m = ap (λ t. t && (code == 8)) (not_first m)
no_status (Some (BroadMode code)) m = refl

never_resets : (r : Option Replying) → resets_next (sent_one r) ≡ false
never_resets None = refl
never_resets (Some r) = by_test (nat_le (suc r.number) (words_after_status r.cell))
  where
    by_test : (t : Bool) → resets_next (if t then Some (record r { number = suc r.number }) else None) ≡ false
    by_test true = no_status r.cell r.number
    by_test false = refl

-- what looking back gives at g is that at h, but for the reply, of which k words more were sent
record Passed (P : Description) (k : ℕ) (h g : List Noted) : Type 0 where
  heard : heard_on_buses P g ≡ heard_on_buses P h
  standing : (b : Bus) → standing_of P (open_now P g b) ≡ standing_of P (open_now P h b)
  registers : registers_now P g ≡ registers_now P h
  held : (s i : ℕ) → held_now P g s i ≡ held_now P h s i
  reply : reply_now g ≡ sent_many k (reply_now h)

passed : (P : Description) (k : ℕ) (h : List Event) → resets_next (reply_now (past P h)) ≡ false → Passed P k (past P h) (past P (history_after (slots k) h))
passed P zero h e = record { heard = refl; standing = λ b. refl; registers = refl; held = λ s i. refl; reply = refl }
passed P (suc k) h e =
    let n : List Noted = past P h in
    let one : reply_now (past P (Slot ∷ h)) ≡ sent_one (reply_now n) = reply_slot_law n (reply_now n) Nothing in
    let i = passed P k (Slot ∷ h) (ap resets_next one ∙ never_resets (reply_now n)) in
    record {
      heard = i.heard ∙ heard_slot P n (reply_now n);
      standing = λ b. i.standing b ∙ ap (standing_of P) (slot_law P n b (reply_now n) Nothing);
      registers = i.registers ∙ (registers_slot P n ∙ ap (λ t. reset_if t (registers_now P n)) e);
      held = λ s m. i.held s m ∙ (held_slot_law P n s m ∙ ap (λ t. if t then P.initial s m else held_now P n s m) e);
      reply = i.reply ∙ ap (sent_many k) one;
    }

slots_stand : {L : Type 0} (is_legal : L → Cell → Bool) (P : Description) (h : List Event) (k : ℕ) (t : Terminal L) (x : Option Reply) →
    resets_next (shown_reply t.reply) ≡ false → shown_reply x ≡ sent_many k (shown_reply t.reply) →
    StandsAt is_legal P h t → StandsAt is_legal P (history_after (slots k) h) (record t { reply = x })
slots_stand is_legal P h k t x e reply s =
    let q = passed P k h (ap resets_next (sym s.reply) ∙ e) in
    record {
      description = s.description;
      heard = s.heard ∙ sym q.heard;
      standing = λ b. s.standing b ∙ sym (q.standing b);
      registers = s.registers ∙ sym q.registers;
      reply = reply ∙ (ap (sent_many k) s.reply ∙ sym q.reply);
      held = λ m i low high first last. s.held m i low high first last ∙ sym (q.held m i);
    }

-- A terminal that took one slot, and then the others at once: the first alone may be that of a status.
pub slots_taken : {L : Type 0} (is_legal : L → Cell → Bool) (P : Description) (h : List Event) (count : ℕ) (t u : Terminal L) (x : Option Reply) → 0 < count →
    TakesSlot is_legal t u → shown_reply x ≡ sent_many (count - 1) (shown_reply u.reply) →
    StandsAt is_legal P h t → StandsAt is_legal P (history_after (slots count) h) (record u { reply = x })
slots_taken is_legal P h zero t u x some takes reply s = absurd (omega arith)
slots_taken is_legal P h (suc k) t u x some takes reply s =
    let others : suc k - 1 ≡ k = omega arith in
    slots_stand is_legal P (Slot ∷ h) k u x (ap resets_next takes.reply ∙ never_resets (shown_reply t.reply)) (reply ∙ ap (λ j. sent_many j (shown_reply u.reply)) others)
    (slot_stands is_legal P h t u s takes)

-- a reply of words m + 1 to n of a subaddress
abbrev words_of : Bus → ℕ → ℕ → ℕ → Replying
words_of b s n m = record { bus = b; cell = Some (OwnTransmit s n); number = suc m }

-- after k slots more, where words are left
left_after : (P : Description) (h : List Event) (b : Bus) (s n m k : ℕ) → reply_now (past P h) ≡ Some (words_of b s n m) → k + suc m ≤ n →
    reply_now (past P (history_after (slots k) h)) ≡ Some (words_of b s n (m + k))
left_after P h b s n m k e within =
    let q = passed P k h (ap resets_next e ∙ no_status (Some (OwnTransmit s n)) m) in
    let left : nat_le k (n - suc m) ≡ true = grind (arith, nat_tests) in
    let number : suc m + k ≡ suc (m + k) = omega arith in
    q.reply
    ∙ (ap (sent_many k) e
    ∙ (sent_law k (words_of b s n m)
    ∙ (ap (λ t. if t then Some (record (words_of b s n m) { number = suc m + k }) else None) left
    ∙ ap (λ j. Some (record (words_of b s n m) { number = j })) number)))

place_before : (s n m : ℕ) → is_data_place s n ≡ true → suc m ≤ n → (1 ≤ s) × (s ≤ 30) × (suc m ≤ 32)
place_before s n m e f = (grind (arith, nat_tests), grind (arith, nat_tests), grind (arith, nat_tests))

-- each of the words that are left is sent in a slot
pub words_sent : {L : Type 0} (is_legal : L → Cell → Bool) (P : Description) (h : List Event) (t : Terminal L) (b : Bus) (s n m : ℕ) (words : List ℕ) →
    shown_reply t.reply ≡ Some (words_of b s n m) → is_data_place s n ≡ true → StandsAt is_legal P h t →
    (suc m ≤ n → words ≡ take (n - m) (drop m (block_in t.held s))) → (n < suc m → words ≡ []) → AreSent P h b words
words_sent is_legal P h t b s n m words e last stands some none k within = by_test (nat_le (suc m) n) refl
  where
    before : reply_now (past P h) ≡ Some (words_of b s n m)
    before = sym stands.reply ∙ e

    sent : suc m ≤ n → words ≡ take (n - m) (drop m (block_in t.held s)) → out P (history_after (slots k) h) Slot ≡ SendsWord (sending b Dat (get_or words k 0))
    sent left are =
        let few : length words ≤ n - m = grind (arith, common_steps) in
        let there : k < n - m = omega arith in
        let q = passed P k h (ap resets_next before ∙ no_status (Some (OwnTransmit s n)) m) in
        let place = place_before s n (m + k) last (omega arith) in
        let index : suc (m + k) - 1 ≡ m + k = omega arith in
        let held : get_or (block_in t.held s) (m + k) 0 ≡ get_or words k 0 =
        sym (get_or-drop m (block_in t.held s) k 0) ∙ (sym (get_or-take (n - m) (drop m (block_in t.held s)) k 0 there) ∙ ap (λ l. get_or l k 0) (sym are)) in
        let g : List Noted = past P (history_after (slots k) h) in
        ap (λ r. sending_out (sends P g r)) (left_after P h b s n m k before (omega arith))
        ∙ (ap (λ t. SendsWord (if t then sending b Com (status_word P.address (kept_now P g)) else sending b Dat (held_now P g s (suc (m + k))))) (not_first (m + k))
        ∙ ap (λ w. SendsWord (sending b Dat w))
        (q.held s (suc (m + k)) ∙ (sym (stands.held s (suc (m + k)) place.0 place.1 (omega arith) place.2) ∙ (ap (λ j. get_or (block_in t.held s) j 0) index ∙ held))))

    by_test : (x : Bool) → nat_le (suc m) n ≡ x → out P (history_after (slots k) h) Slot ≡ SendsWord (sending b Dat (get_or words k 0))
    by_test true x = let left : suc m ≤ n = grind (arith, nat_tests) in sent left (some left)
    by_test false x =
        let over : n < suc m = grind (arith, nat_tests) in
        let empty : length words ≡ 0 = ap length (none over) in
        absurd (omega (arith, within, empty))

-- and they are all that are left
pub words_counted : {L : Type 0} (is_legal : L → Cell → Bool) (P : Description) (h : List Event) (t : Terminal L) (b : Bus) (s n m : ℕ) (words : List ℕ) →
    shown_reply t.reply ≡ Some (words_of b s n m) → StandsAt is_legal P h t →
    (suc m ≤ n → length words ≡ n - m) → (n < suc m → words ≡ []) → length words ≡ words_left (reply_now (past P h))
words_counted is_legal P h t b s n m words e stands some none =
    by_test (nat_le (suc m) n) refl ∙ ap words_left (sym e ∙ stands.reply)
  where
    by_test : (x : Bool) → nat_le (suc m) n ≡ x → length words ≡ n - m
    by_test true x = some (grind (arith, nat_tests))
    by_test false x =
        let over : n < suc m = grind (arith, nat_tests) in
        let empty : length words ≡ 0 = ap length (none over) in
        omega (arith, empty, over)

-- the reply in progress, where it is one of words of a subaddress, behind its status
pub of_reply : {L : Type 0} (t : Terminal L) (r : Reply) (s n : ℕ) → t.reply ≡ Some r → r.cell ≡ Some (OwnTransmit s n) → 0 < r.next →
    shown_reply t.reply ≡ Some (words_of r.bus s r.count (r.next - 1))
of_reply t r s n e cell some =
    let count : n ≡ r.count = sym (r.counted ∙ ap words_after_status cell) in
    let next : r.next ≡ suc (r.next - 1) = omega arith in
    ap shown_reply e ∙ (λ j. Some (record { bus = r.bus; cell = (cell ∙ ap (λ n. Some (OwnTransmit s n)) count) j; number = next j }))

-- where no reply is in progress, nothing is sent
no_reply : (r : Option Replying) → is_some r ≡ false → (let none : Option Replying = None in r ≡ none)
no_reply None e = refl
no_reply (Some r) e = cc

pub slots_are_silent : SlotsAreSilent
slots_are_silent P h e k =
    let none = no_reply (reply_now (past P h)) e in
    let q = passed P k h (ap resets_next none) in
    ap (λ r. sending_out (sends P (past P (history_after (slots k) h)) r)) (q.reply ∙ (ap (sent_many k) none ∙ sent_none k))
