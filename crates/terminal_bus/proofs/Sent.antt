-- The words that are sent in a slot, and what each terminal makes of them.
use Rattle.std.proofs.Common.{◌≡◌, ℕ, Bool, true, false, ◌==◌, if◌then◌else◌, inl, inr, Option, Some, None, is_some, List, [], ◌∷◌, ◌++◌, refl, sym, ◌∙◌, subst}
use Rattle.bus_word.specs.declared.word.Bus.{Bus}
use Rattle.bus_word.specs.declared.word.Bus.TheVariants.{A, B}
use Rattle.bus_word.specs.declared.word.Kind.TheVariants.{Com, Dat}
use Rattle.bus_word.specs.Word.{is_command, valid_word}
use Rattle.bus_word.specs.Command.{address_of}
use Rattle.bus_word.specs.Status.{status_word}
use Rattle.bus_word.proofs.WordLaws.{status_has_bits}
use Rattle.bus_legal.specs.Description.{Description}
use Rattle.terminal_rules.specs.declared.event.Event.{Event}
use Rattle.terminal_rules.specs.declared.event.Event.TheVariants.{Slot}
use Rattle.terminal_rules.specs.Buses.{same_bus}
use Rattle.terminal_rules.specs.History.{Noted, Replying}
use Rattle.terminal_rules.specs.Reply.{reply_now}
use Rattle.terminal_rules.specs.Status.{kept_now}
use Rattle.terminal_rules.specs.Past.{past, history_after}
use Rattle.terminal_rules.specs.Out.{Sending, sending, reply_word, next_sent, sends, sending_out, sent_in}
use Rattle.terminal_bus.specs.Members.{Member, if_on, sent_on, heard_of, unless_sends}
use Rattle.terminal_bus.specs.Discipline.{replies}
use Rattle.terminal_bus.proofs.Standing.{Standing, Clear, ByWord, Keeps, standing, word_moves, word_off, noise_keeps, slot_stays, replies_clear}
use Rattle.terminal_bus.proofs.Fits.{BySent, sent_then, then_sent}
use Rattle.terminal_bus.proofs.Replies.{replies_at, word_replies, noise_replies, slot_replies}

-- who sends, replies, and the status word has its address
abbrev pub IsFrom : ℕ → Sending → Type 0
IsFrom address x = is_command (valid_word x.kind x.bits) ≡ true → address_of x.bits ≡ address

sent_by : (P : Description) (h : List Noted) (b : Bus) (x : Sending) (r : Option Replying) → if_on b (sent_in (sending_out (sends P h r))) ≡ Some x → (is_some r ≡ true) × IsFrom P.address x
sent_by P h b x None e = cc
sent_by P h b x (Some r) e = (refl, by_bus (same_bus b (next_sent P h r).bus) e)
  where
    by_number : (t : Bool) → IsFrom P.address (if t then sending r.bus Com (status_word P.address (kept_now P h)) else sending r.bus Dat (reply_word P h r.cell r.number))
    by_number true c = (status_has_bits P.address (kept_now P h)).address_field
    by_number false c = cc

    by_bus : (t : Bool) → (if t then Some (next_sent P h r) else None) ≡ Some x → IsFrom P.address x
    by_bus true e = let is : next_sent P h r ≡ x = cc in subst (λ (y : Sending). IsFrom P.address y) is (by_number (r.number == 0))
    by_bus false e = cc

pub sender : (m : Member) (b : Bus) (x : Sending) → sent_on b m ≡ Some x → (replies m ≡ true) × IsFrom m.description.address x
sender m b x e = sent_by m.description (past m.description m.history) b x (reply_now (past m.description m.history)) e

-- what is heard on a bus
abbrev Outcome : ℕ → List Sending → Option Sending → Standing → Standing → Type 0
Outcome own xs o s t = BySent own xs s t × ((x : Sending) → o ≡ Some x → t ≡ Clear)

sent_clear : (own : ℕ) (xs : List Sending) (s t : Standing) → t ≡ Clear → BySent own xs s t
sent_clear own [] s t e = inl e
sent_clear own (x ∷ []) s t e = subst (λ (t : Standing). ByWord own (valid_word x.kind x.bits) s t) (sym e) tt
sent_clear own (x ∷ y ∷ more) s t e = inl e

hear_on : (P : Description) (h : List Event) (b : Bus) (xs : List Sending) (o : Option Sending) → ((x : Sending) → o ≡ Some x → standing P h b ≡ Clear) →
    Outcome P.address xs o (standing P h b) (standing P (history_after (unless_sends o (heard_of b xs)) h) b)
hear_on P h b xs (Some y) clear = (sent_clear P.address xs _ (standing P h b) (clear y refl), λ x e. clear y refl)
hear_on P h b [] None clear = (inr refl, λ x e. cc)
hear_on P h b (x ∷ []) None clear = (word_moves P h b (valid_word x.kind x.bits), λ y e. cc)
hear_on P h b (x ∷ y ∷ more) None clear = (noise_keeps P h b b, λ z e. cc)

hear_off : (P : Description) (h : List Event) (b c : Bus) (xs : List Sending) (o : Option Sending) → same_bus b c ≡ false →
    Keeps (standing P h b) (standing P (history_after (unless_sends o (heard_of c xs)) h) b)
hear_off P h b c xs (Some y) e = inr refl
hear_off P h b c [] None e = inr refl
hear_off P h b c (x ∷ []) None e = word_off P h b c (valid_word x.kind x.bits) e
hear_off P h b c (x ∷ y ∷ more) None e = noise_keeps P h b c

hear_replies : (P : Description) (h : List Event) (b : Bus) (xs : List Sending) (o : Option Sending) → replies_at P (history_after (unless_sends o (heard_of b xs)) h) ≡ true → replies_at P h ≡ true
hear_replies P h b xs (Some y) e = e
hear_replies P h b [] None e = e
hear_replies P h b (x ∷ []) None e = word_replies P h b (valid_word x.kind x.bits) e
hear_replies P h b (x ∷ y ∷ more) None e = noise_replies P h b e

pub after_both : (xs ys h : List Event) → history_after (xs ++ ys) h ≡ history_after ys (history_after xs h)
after_both [] ys h = refl
after_both (x ∷ xs) ys h = after_both xs ys (x ∷ h)

keeps_clear : (s t : Standing) → Keeps s t → s ≡ Clear → t ≡ Clear
keeps_clear s t k e = elim k [ inl f ↦ f | inr f ↦ f ∙ e ]

-- a slot, and the words of the others on bus A and on bus B
abbrev pub after_slot : List Sending → List Sending → Option Sending → Option Sending → List Event → List Event
after_slot xs ys o p h = history_after (unless_sends p (heard_of B ys)) (history_after (unless_sends o (heard_of A xs)) (Slot ∷ h))

pub slot_on_a : (P : Description) (h : List Event) (xs ys : List Sending) (o p : Option Sending) → ((x : Sending) → o ≡ Some x → replies_at P h ≡ true) →
    Outcome P.address xs o (standing P h A) (standing P (after_slot xs ys o p h) A)
slot_on_a P h xs ys o p r =
    let h1 : List Event = Slot ∷ h in
    let h2 : List Event = history_after (unless_sends o (heard_of A xs)) h1 in
    let clear : (x : Sending) → o ≡ Some x → standing P h1 A ≡ Clear = (λ x e. slot_stays P h A ∙ replies_clear P h A (r x e)) in
    let first : Outcome P.address xs o (standing P h1 A) (standing P h2 A) = hear_on P h1 A xs o clear in
    let second : Keeps (standing P h2 A) (standing P (after_slot xs ys o p h) A) = hear_off P h2 A B ys p refl in (
      subst (λ (s : Standing). BySent P.address xs s (standing P (after_slot xs ys o p h) A)) (slot_stays P h A) (sent_then P.address xs _ _ _ first.0 second),
      λ x e. keeps_clear _ _ second (first.1 x e),
    )

pub slot_on_b : (P : Description) (h : List Event) (xs ys : List Sending) (o p : Option Sending) → ((x : Sending) → p ≡ Some x → replies_at P h ≡ true) →
    Outcome P.address ys p (standing P h B) (standing P (after_slot xs ys o p h) B)
slot_on_b P h xs ys o p r =
    let h1 : List Event = Slot ∷ h in
    let h2 : List Event = history_after (unless_sends o (heard_of A xs)) h1 in
    let first : Keeps (standing P h1 B) (standing P h2 B) = hear_off P h1 B A xs o refl in
    let clear : (x : Sending) → p ≡ Some x → standing P h2 B ≡ Clear = (λ x e. keeps_clear _ _ first (slot_stays P h B ∙ replies_clear P h B (r x e))) in
    let second : Outcome P.address ys p (standing P h2 B) (standing P (after_slot xs ys o p h) B) = hear_on P h2 B ys p clear in (
      subst (λ (s : Standing). BySent P.address ys s (standing P (after_slot xs ys o p h) B)) (slot_stays P h B) (then_sent P.address ys _ _ _ first second.0),
      second.1,
    )

pub slot_quiet : (P : Description) (h : List Event) (xs ys : List Sending) (o p : Option Sending) → replies_at P (after_slot xs ys o p h) ≡ true → replies_at P h ≡ true
slot_quiet P h xs ys o p e =
    slot_replies P h (hear_replies P (Slot ∷ h) A xs o (hear_replies P (history_after (unless_sends o (heard_of A xs)) (Slot ∷ h)) B ys p e))
