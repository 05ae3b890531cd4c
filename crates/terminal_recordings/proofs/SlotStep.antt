-- Histories that are alike stay so when a slot comes to both, and the same is sent in it.
use Rattle.std.proofs.Common.{◌≡◌, ℕ, Bool, true, false, not, ◌==◌, if◌then◌else◌, inl, inr, Option, Some, None, List, ◌∷◌, refl, ap, sym, ◌∙◌, subst}
use Rattle.bus_word.specs.declared.word.Kind.TheVariants.{Com, Dat}
use Rattle.bus_word.specs.Status.{status_word}
use Rattle.bus_legal.specs.Description.{Description}
use Rattle.terminal_rules.specs.declared.event.Event.{Event}
use Rattle.terminal_rules.specs.declared.event.Event.TheVariants.{Slot}
use Rattle.terminal_rules.specs.declared.event.Flag.{Flag}
use Rattle.terminal_rules.specs.declared.event.Flag.TheVariants.{Busy}
use Rattle.terminal_rules.specs.History.{Noted, Replying}
use Rattle.terminal_rules.specs.Reply.{reply_now}
use Rattle.terminal_rules.specs.Flags.{flag_now}
use Rattle.terminal_rules.specs.Status.{kept_now, later_or}
use Rattle.terminal_rules.specs.Past.{past}
use Rattle.terminal_rules.specs.Out.{Sending, sending, sends, sending_out, reply_word, out, sent_in}
use Rattle.terminal_rules.specs.Steps.{reset_first, kept_after, sent_one}
use Rattle.terminal_recordings.specs.Completion.{status_sent, flag_shown}
use Rattle.terminal_recordings.specs.Masks.{AreDataWords, FitsWord}
use Rattle.terminal_recordings.proofs.Summary.{summary, in_slot, kept_law, reply_law}
use Rattle.terminal_recordings.proofs.Alike.{flag_in, shows_flag, shown_alike, ReplyAlike, Alike}
use Rattle.terminal_recordings.proofs.Step.{SameEvent, same_event, determined_alike, inhibited_alike, kept_alike}

-- the status word that is sent, or one that is seen later
abbrev pub sent_or : Option ℕ → Option ℕ → Option ℕ
sent_or now later = elim now [ None ↦ later | Some bits ↦ Some bits ]

-- what is sent in a slot, by the reply in progress
abbrev pub sent_of : Description → List Noted → Option Replying → Option Sending
sent_of P h r = sent_in (sending_out (sends P h r))

-- the data words of a reply are the same
abbrev pub WordsAlike : Description → List Noted → List Noted → Type 0
WordsAlike P h k = (r : Replying) → reply_now h ≡ Some r → (r.number == 0) ≡ false → reply_word P k r.cell r.number ≡ reply_word P h r.cell r.number

abbrev pub SlotAlike : Description → List Event → List Event → Option ℕ → Type 0
SlotAlike P h k later = (sent_in (out P h Slot) ≡ sent_in (out P k Slot)) × Alike (flag_shown later) (summary P (past P (Slot ∷ h))) (summary P (past P (Slot ∷ k)))

-- where no status is sent
unsent : (P : Description) (h k : List Event) (later : Option ℕ) →
    Alike (flag_shown later) (summary P (past P h)) (summary P (past P k)) → ((x : Flag) → flag_now (past P k) x ≡ flag_shown later x) →
    reply_now (past P h) ≡ reply_now (past P k) → Alike (flag_shown later) (summary P (past P (Slot ∷ h))) (summary P (past P (Slot ∷ k)))
unsent P h k later a flags q =
    let s : SameEvent P (past P h) (past P k) Slot = same_event P h k Slot (flag_shown later) a (ap (λ r. in_slot r Slot) q) in
    record {
      determined = determined_alike P (past P h) (past P k) Slot a.determined s;
      inhibited = inhibited_alike P (past P h) (past P k) Slot s a.inhibited;
      kept = kept_alike P (past P h) (past P k) Slot (flag_shown later) a.inhibited s flags a.kept;
      reply = inl (reply_law P (past P h) Slot ∙ (ap sent_one q ∙ sym (reply_law P (past P k) Slot)));
    }

-- where one is, of the same kept status
sent : (P : Description) (h k : List Event) (f : Flag → Bool) (later : Option ℕ) →
    Alike f (summary P (past P h)) (summary P (past P k)) →
    reply_now (past P h) ≡ reply_now (past P k) → kept_now P (past P h) ≡ kept_now P (past P k) → Alike (flag_shown later) (summary P (past P (Slot ∷ h))) (summary P (past P (Slot ∷ k)))
sent P h k f later a q kept =
    let s : SameEvent P (past P h) (past P k) Slot = same_event P h k Slot f a (ap (λ r. in_slot r Slot) q) in
    record {
      determined = determined_alike P (past P h) (past P k) Slot a.determined s;
      inhibited = inhibited_alike P (past P h) (past P k) Slot s a.inhibited;
      kept = inl (kept_law P (past P h) Slot ∙ ((λ j. kept_after (later_or None (reset_first (s.reset j) None)) false (kept j)) ∙ sym (kept_law P (past P k) Slot)));
      reply = inl (reply_law P (past P h) Slot ∙ (ap sent_one q ∙ sym (reply_law P (past P k) Slot)));
    }

no_turn : (b : Bool) → b ≡ not b → ⊥
no_turn true e = cc
no_turn false e = cc

-- the same reply, where a flag is shown or the status was sent
same_shown : (busy f : Bool) (r s : Option Replying) → ReplyAlike busy f r s → f ≡ busy → r ≡ s
same_shown busy f r s (inl e) i = e
same_shown busy f r s (inr a) i = absurd (no_turn busy (a.apart ∙ ap not i))

-- the number of the word that is sent next, 1 for none
abbrev pub number_of : Option Replying → ℕ
number_of None = 1
number_of (Some r) = r.number

pub same_later : (busy f : Bool) (r s : Option Replying) → ReplyAlike busy f r s → (number_of r == 0) ≡ false → r ≡ s
same_later busy f r s (inl e) i = e
same_later busy f r s (inr a) i = let n : true ≡ false = sym (ap (λ o. number_of o == 0) a.left) ∙ i in cc

-- of a slot in which a data word is sent: what is sent in each, and that they stay alike
abbrev DataAlike : Description → List Event → List Event → Option ℕ → Replying → Type 0
DataAlike P h k later r =
    (sent_in (out P h Slot) ≡ Some (sending r.bus Dat (reply_word P (past P h) r.cell r.number)))
    × (sent_in (out P k Slot) ≡ Some (sending r.bus Dat (reply_word P (past P k) r.cell r.number)))
    × Alike (flag_shown later) (summary P (past P (Slot ∷ h))) (summary P (past P (Slot ∷ k)))

pub data_sent_of : (P : Description) (h : List Event) (r : Replying) → reply_now (past P h) ≡ Some r → (r.number == 0) ≡ false →
    sent_in (out P h Slot) ≡ Some (sending r.bus Dat (reply_word P (past P h) r.cell r.number))
data_sent_of P h r e n =
    ap (sent_of P (past P h)) e ∙ ap (λ t. Some (if t then sending r.bus Com (status_word P.address (kept_now P (past P h))) else sending r.bus Dat (reply_word P (past P h) r.cell r.number))) n

data_alike : (P : Description) (h k : List Event) (later : Option ℕ) → Alike (flag_shown later) (summary P (past P h)) (summary P (past P k)) →
    ((x : Flag) → flag_now (past P k) x ≡ flag_shown later x) → (r : Replying) → reply_now (past P h) ≡ Some r → (r.number == 0) ≡ false → DataAlike P h k later r
data_alike P h k later a flags r e n =
    let q : reply_now (past P h) ≡ reply_now (past P k) =
    same_later (kept_now P (past P h)).busy _ (reply_now (past P h)) (reply_now (past P k)) a.reply (ap (λ o. number_of o == 0) e ∙ n) in
    (data_sent_of P h r e n, data_sent_of P k r (sym q ∙ e) n, unsent P h k later a flags q)

pub slot_alike : (P : Description) (h k : List Event) (later : Option ℕ) →
    Alike (flag_shown (sent_or (status_sent (sent_in (out P h Slot))) later)) (summary P (past P h)) (summary P (past P k)) →
    ((x : Flag) → flag_now (past P k) x ≡ flag_shown (sent_or (status_sent (sent_in (out P h Slot))) later) x) →
    WordsAlike P (past P h) (past P k) → SlotAlike P h k later
slot_alike P h k later a flags words = by_reply (reply_now (past P h)) refl
  where
    at_later : sent_or (status_sent (sent_in (out P h Slot))) later ≡ later → Alike (flag_shown later) (summary P (past P h)) (summary P (past P k))
    at_later status = subst (λ (o : Option ℕ). Alike (flag_shown o) (summary P (past P h)) (summary P (past P k))) status a

    by_number : (r : Replying) (t : Bool) → reply_now (past P h) ≡ Some r → (r.number == 0) ≡ t → SlotAlike P h k later
    by_number r true e n =
        let word : sent_of P (past P h) (reply_now (past P h)) ≡ Some (sending r.bus Com (status_word P.address (kept_now P (past P h)))) =
        ap (sent_of P (past P h)) e ∙ ap (λ t. Some (if t then sending r.bus Com (status_word P.address (kept_now P (past P h))) else sending r.bus Dat (reply_word P (past P h) r.cell r.number))) n in
        let shows : (x : Flag) → flag_shown (sent_or (status_sent (sent_in (out P h Slot))) later) x ≡ flag_in (kept_now P (past P h)) x =
        (λ x. ap (λ o. flag_shown (sent_or (status_sent o) later) x) word ∙ shows_flag P.address (kept_now P (past P h)) x) in
        let kept : kept_now P (past P h) ≡ kept_now P (past P k) =
        shown_alike (flag_shown (sent_or (status_sent (sent_in (out P h Slot))) later)) (kept_now P (past P h)) (kept_now P (past P k)) shows a.kept in
        let q : reply_now (past P h) ≡ reply_now (past P k) = same_shown (kept_now P (past P h)).busy _ (reply_now (past P h)) (reply_now (past P k)) a.reply (shows Busy) in
        let other : sent_of P (past P k) (reply_now (past P k)) ≡ Some (sending r.bus Com (status_word P.address (kept_now P (past P k)))) =
        ap (sent_of P (past P k)) (sym q ∙ e) ∙ ap (λ t. Some (if t then sending r.bus Com (status_word P.address (kept_now P (past P k))) else sending r.bus Dat (reply_word P (past P k) r.cell r.number))) n in (
          word ∙ (ap (λ s. Some (sending r.bus Com (status_word P.address s))) kept ∙ sym other),
          sent P h k (flag_shown (sent_or (status_sent (sent_in (out P h Slot))) later)) later a q kept,
        )
    by_number r false e n =
        let status : sent_or (status_sent (sent_in (out P h Slot))) later ≡ later = ap (λ o. sent_or (status_sent o) later) (data_sent_of P h r e n) in
        let d : DataAlike P h k later r = data_alike P h k later (at_later status) (λ x. flags x ∙ ap (λ o. flag_shown o x) status) r e n in
        (d.0 ∙ (ap (λ w. Some (sending r.bus Dat w)) (sym (words r e n)) ∙ sym d.1), d.2)

    by_reply : (r : Option Replying) → reply_now (past P h) ≡ r → SlotAlike P h k later
    by_reply None e =
        let word : sent_of P (past P h) (reply_now (past P h)) ≡ None = ap (sent_of P (past P h)) e in
        let status : sent_or (status_sent (sent_in (out P h Slot))) later ≡ later = ap (λ o. sent_or (status_sent o) later) word in
        let q : reply_now (past P h) ≡ reply_now (past P k) =
        same_later (kept_now P (past P h)).busy _ (reply_now (past P h)) (reply_now (past P k)) a.reply (ap (λ o. number_of o == 0) e) in (
          word ∙ sym (ap (sent_of P (past P k)) (sym q ∙ e)),
          unsent P h k later (at_later status) (λ x. flags x ∙ ap (λ o. flag_shown o x) status) q,
        )
    by_reply (Some r) e = by_number r (r.number == 0) e refl

-- a slot in which a data word is sent, and another is stated that is left open: one is sent in the second, too
pub open_slot_alike : (P : Description) (h k : List Event) (later : Option ℕ) (stated : Sending) → Alike (flag_shown later) (summary P (past P h)) (summary P (past P k)) →
    ((x : Flag) → flag_now (past P k) x ≡ flag_shown later x) → FitsWord true (Some stated) (sent_in (out P h Slot)) →
    FitsWord true (Some stated) (sent_in (out P k Slot)) × Alike (flag_shown later) (summary P (past P (Slot ∷ h))) (summary P (past P (Slot ∷ k)))
open_slot_alike P h k later stated a flags fits = by_reply (reply_now (past P h)) refl
  where
    by_number : (r : Replying) (t : Bool) → reply_now (past P h) ≡ Some r → (r.number == 0) ≡ t →
        FitsWord true (Some stated) (sent_in (out P k Slot)) × Alike (flag_shown later) (summary P (past P (Slot ∷ h))) (summary P (past P (Slot ∷ k)))
    by_number r true e n =
        let word : sent_in (out P h Slot) ≡ Some (sending r.bus Com (status_word P.address (kept_now P (past P h)))) =
        ap (sent_of P (past P h)) e ∙ ap (λ t. Some (if t then sending r.bus Com (status_word P.address (kept_now P (past P h))) else sending r.bus Dat (reply_word P (past P h) r.cell r.number))) n in
        let status : AreDataWords stated (sending r.bus Com (status_word P.address (kept_now P (past P h)))) = subst (FitsWord true (Some stated)) word fits in
        let wrong : Com ≡ Dat = status.second in absurd (cc)
    by_number r false e n =
        let d : DataAlike P h k later r = data_alike P h k later a flags r e n in
        let words : AreDataWords stated (sending r.bus Dat (reply_word P (past P h) r.cell r.number)) = subst (FitsWord true (Some stated)) d.0 fits in
        (subst (FitsWord true (Some stated)) (sym d.1) (record { bus = words.bus; first = words.first; second = refl }), d.2)

    by_reply : (r : Option Replying) → reply_now (past P h) ≡ r →
        FitsWord true (Some stated) (sent_in (out P k Slot)) × Alike (flag_shown later) (summary P (past P (Slot ∷ h))) (summary P (past P (Slot ∷ k)))
    by_reply None e = absurd (subst (FitsWord true (Some stated)) (ap (sent_of P (past P h)) e) fits)
    by_reply (Some r) e = by_number r (r.number == 0) e refl
