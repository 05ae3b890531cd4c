-- The three terminals of a transfer, each by itself: the one that sends, the one that receives, and any other.
use Rattle.std.proofs.Common.{◌≡◌, ◌≢◌, ℕ, zero, suc, ◌+◌, ◌≤◌, Bool, true, false, not, ◌&&◌, ◌||◌, ◌==◌, nat_le, if◌then◌else◌, Option, Some, None, List, [], ◌∷◌, ◌++◌, length, refl, ap, sym, ◌∙◌, subst, arith, eq-eqb, length-append}
use Rattle.std.proofs.lemmas.Bool.{ne_eqb}
use Rattle.std.proofs.lemmas.Bool.Decides.{nat_tests}
use Rattle.bus_word.specs.declared.word.Bus.{Bus}
use Rattle.bus_word.specs.declared.word.Bus.TheVariants.{A, B}
use Rattle.bus_word.specs.declared.word.Kind.{Kind}
use Rattle.bus_word.specs.declared.word.Kind.TheVariants.{Com, Dat}
use Rattle.bus_word.specs.declared.word.Raw.{Raw}
use Rattle.bus_word.specs.declared.cell.Cell.{Cell}
use Rattle.bus_word.specs.declared.cell.Cell.TheVariants.{OwnReceive, OwnTransmit, BroadReceive, OwnMode, BroadMode}
use Rattle.bus_word.specs.Word.{is_valid, low_bits, ones, valid_word}
use Rattle.bus_word.specs.Command.{address_of, transmits, is_receive, is_broadcast, expected}
use Rattle.bus_word.specs.Status.{status_word}
use Rattle.bus_word.specs.Cell.{cell_of}
use Rattle.bus_word.proofs.Parity.{odd_with_parity}
use Rattle.bus_legal.specs.Description.{Description}
use Rattle.terminal_rules.specs.declared.event.Event.{Event}
use Rattle.terminal_rules.specs.declared.event.Event.TheVariants.{Word, Gap, Slot}
use Rattle.terminal_rules.specs.declared.event.Flag.{Flag}
use Rattle.terminal_rules.specs.declared.event.Flag.TheVariants.{Service, Busy, Subsystem, Terminal}
use Rattle.terminal_rules.specs.LookBack.{or_else}
use Rattle.terminal_rules.specs.History.{Noted, noted_as, Turn, NoTurn, Replying, Ending, Nothing, Badly, Illegal, Blocked, Done, Entry}
use Rattle.terminal_rules.specs.Open.{Open, Idle, Collects, Waits, Resumes, transfer}
use Rattle.terminal_rules.specs.Reply.{reply_after, reply_now}
use Rattle.terminal_rules.specs.Flags.{flag_now, flag_set}
use Rattle.terminal_rules.specs.Starts.{is_for_terminal, heard_now, starts_now}
use Rattle.terminal_rules.specs.Ends.{verdict, with_word, data_words, if_expected, ends_with, at_gap, ends_now}
use Rattle.terminal_rules.specs.SinceReset.{begins, resets_by_broadcast, does_own_reset, resets_in_slot, resets, is_reset, inhibits, shuts, off_now, inhibited_now, held_set, held_now}
use Rattle.terminal_rules.specs.Status.{accepts, inhibited_after, reports_kept, kept_by_end, adds_error, kept_now, formed_done}
use Rattle.terminal_rules.specs.Turn.{is_answered, done_cell, turn_of_gap, turn_of_slot, unless_ignored_turn}
use Rattle.terminal_rules.specs.Past.{note, past}
use Rattle.terminal_rules.specs.Out.{Silence, SendsWord, HandsOver, HandsReceived, Sending, sending, hands, handing_over, sends, sending_out, out}
use Rattle.terminal_rules.specs.Steps.{replies_on, reset_first, kept_after, unless_reset, begun_if}
use Rattle.terminal_rules.proofs.OpenLaw.{after_gap, after_entry, unheard, waits}
use Rattle.terminal_rules.proofs.ReplyLaw.{next_of, no_words}
use Rattle.terminal_rules.proofs.BackLaw.{flag_step, inhibited_step, off_step, held_step}
use Rattle.terminal_rules.proofs.KeptLaw.{kept_step}
use Rattle.terminal_bus.specs.Transfer.{is_waiting}
use Rattle.terminal_bus.proofs.Cells.{receives_law, transmits_law}
use Rattle.terminal_bus.proofs.Local.{At, not_for_at, start_at, slot_at, gap_ends, gap_at, gap_out, slot_out, Steady, steady_then, word_steady}

pub valid : (k : Kind) (bits : ℕ) → is_valid (valid_word k bits) ≡ true
valid k bits = odd_with_parity (ones (low_bits 16 bits))

-- words that are not for a terminal
not_address : (v e p : Bool) (h : Bool) → e ≡ false → p ≡ false → v && (e || (p && h)) ≡ false
not_address true true p h e q = cc
not_address true false true h e q = cc
not_address true false false h e q = refl
not_address false e p h x y = refl

pub other_command : (P : Description) (c : ℕ) → address_of c ≢ P.address → is_broadcast c ≡ false → is_for_terminal P (valid_word Com c) ≡ false
other_command P c n own = not_address (is_valid (valid_word Com c)) (address_of c == P.address) (is_broadcast c) P.broadcast (ne_eqb (address_of c) P.address n) own

own_tests : (v e x : Bool) → v ≡ true → e ≡ true → v && (e || x) ≡ true
own_tests true true x p q = refl
own_tests true false x p q = cc
own_tests false e x p q = cc

pub own_command : (P : Description) (c : ℕ) → address_of c ≡ P.address → is_for_terminal P (valid_word Com c) ≡ true
own_command P c e = own_tests (is_valid (valid_word Com c)) (address_of c == P.address) _ (valid Com c) (eq-eqb (address_of c) P.address e)

-- what a gap and a slot leave as it was
abbrev IsPlain : Ending → Type 0
IsPlain Nothing = Unit {0}
IsPlain (Badly c) = Unit {0}
IsPlain (Done c (OwnTransmit t n) ds) = Unit {0}
IsPlain _ = ⊥

steady_of : (P : Description) (b : Bus) (p : Noted) (h : List Noted) → ((f : Flag) → (let none : Option Bool = None in flag_set f p.event ≡ none)) → is_reset p ≡ false →
    (let none : Option Bool = None in shuts b p ≡ none) → (let none : Option Bool = None in inhibits p ≡ none) → ((s i : ℕ) → (let none : Option ℕ = None in held_set P s i p ≡ none)) → Steady P b (p ∷ h) h
steady_of P b p h flags reset off inhibited held = record {
  flags = λ f. flag_step f p h ∙ ap (λ o. or_else o (flag_now h f)) (flags f);
  off = off_step b p h ∙ (λ j. unless_reset (reset j) false (off j) (off_now h b));
  inhibited = inhibited_step p h ∙ (λ j. unless_reset (reset j) false (inhibited j) (inhibited_now h));
  held = λ s i. held_step P s i p h ∙ (λ j. unless_reset (reset j) (P.initial s i) (held s i j) (held_now P h s i));
}

no_reset : (turn : Turn) (x : Ending) → IsPlain x → resets_in_slot turn ≡ false → resets turn x ≡ false
no_reset turn Nothing u e = e
no_reset turn (Badly c) u e = e
no_reset turn (Done c (OwnTransmit t n) ds) u e = e
no_reset turn (Done c (OwnReceive t n) ds) u e = absurd u
no_reset turn (Done c (BroadReceive t n) ds) u e = absurd u
no_reset turn (Done c (OwnMode code) ds) u e = absurd u
no_reset turn (Done c (BroadMode code) ds) u e = absurd u
no_reset turn (Illegal c) u e = absurd u
no_reset turn (Blocked c cell) u e = absurd u

gap_turn : (b : Bus) (i a : Bool) (cell : Option Cell) → resets_in_slot (unless_ignored_turn i (turn_of_gap b a cell)) ≡ false
gap_turn b true a cell = refl
gap_turn b false true cell = refl
gap_turn b false false cell = refl

gap_shuts : (b : Bus) (turn : Turn) (x : Ending) → (let none : Option Bool = None in shuts b (noted_as (Gap b) turn false x) ≡ none)
gap_shuts A turn x = refl
gap_shuts B turn x = refl

plain_inhibits : (e : Event) (turn : Turn) (x : Ending) → IsPlain x → (let none : Option Bool = None in inhibits (noted_as e turn false x) ≡ none)
plain_inhibits e turn Nothing u = refl
plain_inhibits e turn (Badly c) u = refl
plain_inhibits e turn (Done c (OwnTransmit t n) ds) u = refl
plain_inhibits e turn (Done c (OwnReceive t n) ds) u = absurd u
plain_inhibits e turn (Done c (BroadReceive t n) ds) u = absurd u
plain_inhibits e turn (Done c (OwnMode code) ds) u = absurd u
plain_inhibits e turn (Done c (BroadMode code) ds) u = absurd u
plain_inhibits e turn (Illegal c) u = absurd u
plain_inhibits e turn (Blocked c cell) u = absurd u

plain_holds : (P : Description) (b : Bus) (turn : Turn) (x : Ending) → IsPlain x → (s i : ℕ) → (let none : Option ℕ = None in held_set P s i (noted_as (Gap b) turn false x) ≡ none)
plain_holds P b turn Nothing u s i = refl
plain_holds P b turn (Badly c) u s i = refl
plain_holds P b turn (Done c (OwnTransmit t n) ds) u s i = refl
plain_holds P b turn (Done c (OwnReceive t n) ds) u s i = absurd u
plain_holds P b turn (Done c (BroadReceive t n) ds) u s i = absurd u
plain_holds P b turn (Done c (OwnMode code) ds) u s i = absurd u
plain_holds P b turn (Done c (BroadMode code) ds) u s i = absurd u
plain_holds P b turn (Illegal c) u s i = absurd u
plain_holds P b turn (Blocked c cell) u s i = absurd u

pub gap_steady : (P : Description) (h : List Event) (b : Bus) → IsPlain (ends_now P (past P h) (Gap b)) → Steady P b (past P (Gap b ∷ h)) (past P h)
gap_steady P h b u =
    let x : Ending = ends_now P (past P h) (Gap b) in
    let turn : Turn = unless_ignored_turn (replies_on (past P h) b) (turn_of_gap b (is_answered (off_now (past P h) b) x) (done_cell x)) in
    steady_of P b (noted_as (Gap b) turn false x) (past P h) (λ f. refl)
    (no_reset turn x u (gap_turn b (replies_on (past P h) b) (is_answered (off_now (past P h) b) x) (done_cell x)))
    (gap_shuts b turn x) (plain_inhibits (Gap b) turn x u) (plain_holds P b turn x u)

abbrev resets_not : Option Replying → Type 0
resets_not r = resets_in_slot (turn_of_slot r) ≡ false

pub slot_steady : (P : Description) (h : List Event) (b : Bus) (r : Option Replying) → reply_now (past P h) ≡ r → resets_not r → Steady P b (past P (Slot ∷ h)) (past P h)
slot_steady P h b r e u =
    steady_of P b (note P (past P h) Slot) (past P h) (λ f. refl) (ap (λ r. resets_in_slot (turn_of_slot r)) e ∙ u) refl refl (λ s i. refl)

-- the status formed
pub formed_steady : (P : Description) (b : Bus) (k h : List Noted) (c : ℕ) (cell : Cell) → Steady P b k h → formed_done P k c cell ≡ formed_done P h c cell
formed_steady P b k h c cell s = λ j. record {
  error = false;
  service = s.flags Service j;
  broadcast = is_broadcast c;
  busy = s.flags Busy j;
  subsystem = s.flags Subsystem j;
  accept = accepts P.accept cell;
  terminal = s.flags Terminal j && not (inhibited_after (s.inhibited j) cell);
}

-- the kept status after the gap of a message of data that is done
pub kept_at_gap : (P : Description) (h : List Event) (b : Bus) (c : ℕ) (cell : Cell) (ds : List ℕ) → ends_now P (past P h) (Gap b) ≡ Done c cell ds →
    reports_kept cell ≡ false → resets_by_broadcast (Done c cell ds) ≡ false → does_own_reset (Done c cell ds) ≡ false → kept_now P (past P (Gap b ∷ h)) ≡ formed_done P (past P h) c cell
kept_at_gap P h b c cell ds e reports broad own =
    let turn : Ending → Turn = (λ x. unless_ignored_turn (replies_on (past P h) b) (turn_of_gap b (is_answered (off_now (past P h) b) x) (done_cell x))) in
    let reset : resets (turn (Done c cell ds)) (Done c cell ds) ≡ false =
    (λ j. broad j || ((own j && not (begins (turn (Done c cell ds)))) || gap_turn b (replies_on (past P h) b) (is_answered (off_now (past P h) b) (Done c cell ds)) (Some cell) j)) in
    kept_step P (note P (past P h) (Gap b)) (past P h)
    ∙ (ap (λ x. kept_after (reset_first (resets (turn x) x) (kept_by_end P (past P h) false x)) (adds_error P x) (kept_now P (past P h))) e
    ∙ (λ j. kept_after (reset_first (reset j) (if reports j then None else Some (formed_done P (past P h) c cell))) false (kept_now P (past P h))))

-- the commands, and the gap
abbrev pub asked : Bus → ℕ → ℕ → List Event → List Event
asked b c d h = Word b (valid_word Com d) ∷ Word b (valid_word Com c) ∷ h

abbrev pub gapped : Bus → ℕ → ℕ → List Event → List Event
gapped b c d h = Gap b ∷ asked b c d h

-- the words that are sent, the first being number 0
abbrev pub sent_at : Bus → ℕ → (ℕ → ℕ) → ℕ → Sending
sent_at b st v zero = sending b Com st
sent_at b st v (suc k) = sending b Dat (v (suc k))

abbrev pub word_of : Sending → Raw
word_of x = valid_word x.kind x.bits

-- so many slots: of the one that sends, and of the others
abbrev pub slots_hist : ℕ → List Event → List Event
slots_hist zero h = h
slots_hist (suc k) h = Slot ∷ slots_hist k h

abbrev pub heard_hist : Bus → (ℕ → Sending) → ℕ → List Event → List Event
heard_hist b x zero h = h
heard_hist b x (suc k) h = Word b (word_of (x k)) ∷ Slot ∷ heard_hist b x k h

-- the one that sends
pub record SendReady (P : Description) (h : List Event) (b : Bus) (c d t n : ℕ) : Type 0 where
  pub idle : At P h b Idle None
  pub unheard : heard_now P (past P h) b ≡ false
  pub c_other : address_of c ≢ P.address
  pub c_own : is_broadcast c ≡ false
  pub to : address_of d ≡ P.address
  pub cell : cell_of d ≡ Some (OwnTransmit t n)
  pub legal : P.legal (OwnTransmit t n) ≡ true
  pub free : flag_now (past P h) Busy ≡ false
  pub on : off_now (past P h) b ≡ false

heard_word : (P : Description) (h : List Noted) (b : Bus) (w : Raw) (i s : Bool) (x : Ending) →
    heard_now P (noted_as (Word b w) (unless_ignored_turn i NoTurn) s x ∷ h) b ≡ (if i then heard_now P h b else (is_for_terminal P w || heard_now P h b))
heard_word P h A w true s x = refl
heard_word P h B w true s x = refl
heard_word P h A w false s x = refl
heard_word P h B w false s x = refl

neither : (i f g : Bool) → f ≡ false → g ≡ false → (if i then g else (f || g)) ≡ false
neither true f g p q = q
neither false true g p q = cc
neither false false g p q = q

unheard_after : (P : Description) (h : List Event) (b : Bus) (w : Raw) → heard_now P (past P h) b ≡ false → is_for_terminal P w ≡ false → heard_now P (past P (Word b w ∷ h)) b ≡ false
unheard_after P h b w e f =
    heard_word P (past P h) b w (replies_on (past P h) b) (starts_now P (past P h) (Word b w)) (ends_now P (past P h) (Word b w))
    ∙ neither (replies_on (past P h) b) (is_for_terminal P w) (heard_now P (past P h) b) f e

send_first : (P : Description) (h : List Event) (b : Bus) (c d t n : ℕ) → SendReady P h b c d t n → At P (Word b (valid_word Com c) ∷ h) b Idle None
send_first P h b c d t n r = not_for_at P h b (valid_word Com c) Idle r.idle (other_command P c r.c_other r.c_own)

send_asked : (P : Description) (h : List Event) (b : Bus) (c d t n : ℕ) → SendReady P h b c d t n → At P (asked b c d h) b (Collects d []) None
send_asked P h b c d t n r =
    start_at P (Word b (valid_word Com c) ∷ h) b (valid_word Com d) (send_first P h b c d t n r)
    (unheard_after P h b (valid_word Com c) r.unheard (other_command P c r.c_other r.c_own)) (own_command P d r.to)

pub asked_steady : (P : Description) (h : List Event) (b : Bus) (c d : ℕ) → Steady P b (past P (asked b c d h)) (past P h)
asked_steady P h b c d =
    steady_then P b (past P (asked b c d h)) (past P (Word b (valid_word Com c) ∷ h)) (past P h)
    (word_steady P (Word b (valid_word Com c) ∷ h) b b (valid_word Com d)) (word_steady P h b b (valid_word Com c))

send_ends : (P : Description) (h : List Event) (b : Bus) (c d t n : ℕ) → SendReady P h b c d t n → ends_now P (past P (asked b c d h)) (Gap b) ≡ Done d (OwnTransmit t n) []
send_ends P h b c d t n r =
    let busy : flag_now (past P (asked b c d h)) Busy ≡ false = (asked_steady P h b c d).flags Busy ∙ r.free in
    let count : expected d ≡ 0 = (transmits_law d t n r.cell).count in
    gap_ends P (asked b c d h) b (Collects d []) (send_asked P h b c d t n r)
    ∙ ((λ j. ends_with P (busy j) d (if 0 == count j then Some [] else None) None)
    ∙ ((λ j. verdict P.legal false d [] (r.cell j))
    ∙ (λ j. if r.legal j then Done d (OwnTransmit t n) [] else Illegal d)))

send_gapped : (P : Description) (h : List Event) (b : Bus) (c d t n : ℕ) → SendReady P h b c d t n → At P (gapped b c d h) b Idle (reply_after b (Some (OwnTransmit t n)) false 0)
send_gapped P h b c d t n r =
    let off : off_now (past P (asked b c d h)) b ≡ false = (asked_steady P h b c d).off ∙ r.on in
    let own : is_broadcast d ≡ false = (transmits_law d t n r.cell).own in
    let a = gap_at P (asked b c d h) b (Collects d []) (Done d (OwnTransmit t n) []) (send_asked P h b c d t n r) (send_ends P h b c d t n r) in
    record {
      message = a.message;
      reply = a.reply ∙ ((λ j. begun_if (not (own j || off j)) b (Some (OwnTransmit t n)) None) ∙ sym (λ j. if no_words n j then Some (record { bus = b; cell = Some (OwnTransmit t n); number = 0 }) else None));
    }

pub send_slots : (P : Description) (h : List Event) (b : Bus) (c d t n : ℕ) → SendReady P h b c d t n → (k : ℕ) →
    At P (slots_hist k (gapped b c d h)) b Idle (reply_after b (Some (OwnTransmit t n)) false k)
send_slots P h b c d t n r zero = send_gapped P h b c d t n r
send_slots P h b c d t n r (suc k) =
    let a = slot_at P (slots_hist k (gapped b c d h)) b Idle (reply_after b (Some (OwnTransmit t n)) false k) (send_slots P h b c d t n r k) in
    record { message = a.message; reply = a.reply ∙ sym (next_of b (Some (OwnTransmit t n)) false k) }

not_reset : (b : Bus) (t n k : ℕ) (l : Bool) → resets_not (if l then Some (record { bus = b; cell = Some (OwnTransmit t n); number = k }) else None)
not_reset b t n k true = refl
not_reset b t n k false = refl

send_steady : (P : Description) (h : List Event) (b : Bus) (c d t n : ℕ) → SendReady P h b c d t n → (k : ℕ) → Steady P b (past P (slots_hist k (gapped b c d h))) (past P h)
send_steady P h b c d t n r zero =
    steady_then P b _ _ _ (gap_steady P (asked b c d h) b (subst IsPlain (sym (send_ends P h b c d t n r)) tt)) (asked_steady P h b c d)
send_steady P h b c d t n r (suc k) =
    steady_then P b _ _ _ (slot_steady P (slots_hist k (gapped b c d h)) b (reply_after b (Some (OwnTransmit t n)) false k) (send_slots P h b c d t n r k).reply (not_reset b t n k (nat_le k n)))
    (send_steady P h b c d t n r k)

-- what it sends
abbrev pub status_of : Description → List Event → ℕ → Cell → ℕ
status_of P h c cell = status_word P.address (formed_done P (past P h) c cell)

abbrev pub held_of : Description → List Event → ℕ → ℕ → ℕ
held_of P h t i = held_now P (past P h) t i

send_kept : (P : Description) (h : List Event) (b : Bus) (c d t n : ℕ) → SendReady P h b c d t n → kept_now P (past P (gapped b c d h)) ≡ formed_done P (past P h) d (OwnTransmit t n)
send_kept P h b c d t n r =
    kept_at_gap P (asked b c d h) b d (OwnTransmit t n) [] (send_ends P h b c d t n r) refl refl refl
    ∙ formed_steady P b (past P (asked b c d h)) (past P h) d (OwnTransmit t n) (asked_steady P h b c d)

not_first : (k : ℕ) → (suc k == 0) ≡ false
not_first k = ne_eqb (suc k) 0 (λ e. omega (arith, e))

pub send_out : (P : Description) (h : List Event) (b : Bus) (c d t n : ℕ) → SendReady P h b c d t n → (k : ℕ) → k ≤ n →
    out P (slots_hist k (gapped b c d h)) Slot ≡ SendsWord (sent_at b (status_of P h d (OwnTransmit t n)) (held_of P h t) k)
send_out P h b c d t n r zero low =
    slot_out P (gapped b c d h) _ (send_slots P h b c d t n r zero).reply
    ∙ ((λ j. sending_out (sends P (past P (gapped b c d h)) (if no_words n j then Some (record { bus = b; cell = Some (OwnTransmit t n); number = 0 }) else None)))
    ∙ (λ j. SendsWord (sending b Com (status_word P.address (send_kept P h b c d t n r j)))))
send_out P h b c d t n r (suc k) low =
    let left : nat_le (suc k) n ≡ true = grind (arith, nat_tests) in
    slot_out P (slots_hist (suc k) (gapped b c d h)) _ (send_slots P h b c d t n r (suc k)).reply
    ∙ ((λ j. sending_out (sends P (past P (slots_hist (suc k) (gapped b c d h))) (if left j then Some (record { bus = b; cell = Some (OwnTransmit t n); number = suc k }) else None)))
    ∙ ((λ j. SendsWord (if not_first k j then sending b Com (status_word P.address (kept_now P (past P (slots_hist (suc k) (gapped b c d h))))) else sending b Dat (held_now P (past P (slots_hist (suc k) (gapped b c d h))) t (suc k))))
    ∙ (λ j. SendsWord (sending b Dat ((send_steady P h b c d t n r (suc k)).held t (suc k) j)))))

pub send_gap : (P : Description) (h : List Event) (b : Bus) (c d t n : ℕ) → SendReady P h b c d t n → out P (asked b c d h) (Gap b) ≡ Silence
send_gap P h b c d t n r = gap_out P (asked b c d h) b (Done d (OwnTransmit t n) []) (send_ends P h b c d t n r)

-- and then it is done
pub idle_gap : (P : Description) (h : List Event) (b : Bus) → At P h b Idle None → (out P h (Gap b) ≡ Silence) × At P (Gap b ∷ h) b Idle None
idle_gap P h b a = (gap_out P h b Nothing (gap_ends P h b Idle a), gap_at P h b Idle Nothing a (gap_ends P h b Idle a))

pub silent_slot : (P : Description) (h : List Event) (b : Bus) (o : Open) → At P h b o None → out P h Slot ≡ Silence
silent_slot P h b o a = slot_out P h None a.reply

pub send_over : (P : Description) (h : List Event) (b : Bus) (c d t n : ℕ) → SendReady P h b c d t n → At P (slots_hist (suc n) (gapped b c d h)) b Idle None
send_over P h b c d t n r =
    let over : nat_le (suc n) n ≡ false = grind (arith, nat_tests) in
    let a = send_slots P h b c d t n r (suc n) in
    record { message = a.message; reply = a.reply ∙ (λ j. if over j then Some (record { bus = b; cell = Some (OwnTransmit t n); number = suc n }) else None) }

-- the one that receives
pub record ReceiveReady (P : Description) (h : List Event) (b : Bus) (c d s n : ℕ) : Type 0 where
  pub idle : At P h b Idle None
  pub unheard : heard_now P (past P h) b ≡ false
  pub to : address_of c ≡ P.address
  pub d_other : address_of d ≢ P.address
  pub d_own : is_broadcast d ≡ false
  pub d_transmits : transmits d ≡ true
  pub cell : cell_of c ≡ Some (OwnReceive s n)
  pub legal : P.legal (OwnReceive s n) ≡ true
  pub free : flag_now (past P h) Busy ≡ false
  pub on : off_now (past P h) b ≡ false

abbrev second : ℕ → Entry
second d = unheard (Some (valid_word Com d))

receive_asked : (P : Description) (h : List Event) (b : Bus) (c d s n : ℕ) → ReceiveReady P h b c d s n → At P (asked b c d h) b (Collects c (second d ∷ [])) None
receive_asked P h b c d s n r =
    not_for_at P (Word b (valid_word Com c) ∷ h) b (valid_word Com d) (Collects c [])
    (start_at P h b (valid_word Com c) r.idle r.unheard (own_command P c r.to)) (other_command P d r.d_other r.d_own)

the_transfer : (P : Description) (h : List Event) (b : Bus) (c d s n : ℕ) → ReceiveReady P h b c d s n → transfer P (Some (c, second d ∷ [])) ≡ Some (c, address_of d)
the_transfer P h b c d s n r =
    let receive : is_receive c ≡ true = (receives_law c s n r.cell).receive in
    λ j. if receive j
    then (elim (if valid Com d j && (r.d_transmits j && (not (ne_eqb (address_of d) P.address r.d_other j) && not (r.d_own j))) then Some (address_of d) else None) as (λ o. Option (ℕ × ℕ)) [ None ↦ None | Some a ↦ Some (c, a) ])
    else None

receive_ends : (P : Description) (h : List Event) (b : Bus) (c d s n : ℕ) → ReceiveReady P h b c d s n → ends_now P (past P (asked b c d h)) (Gap b) ≡ Nothing
receive_ends P h b c d s n r =
    gap_ends P (asked b c d h) b (Collects c (second d ∷ [])) (receive_asked P h b c d s n r)
    ∙ (λ j. ends_with P (flag_now (past P (asked b c d h)) Busy) c None (the_transfer P h b c d s n r j))

receive_gapped : (P : Description) (h : List Event) (b : Bus) (c d s n : ℕ) → ReceiveReady P h b c d s n → At P (gapped b c d h) b (Waits c (address_of d)) None
receive_gapped P h b c d s n r =
    let a = gap_at P (asked b c d h) b (Collects c (second d ∷ [])) Nothing (receive_asked P h b c d s n r) (receive_ends P h b c d s n r) in
    record { message = a.message ∙ ap waits (the_transfer P h b c d s n r); reply = a.reply }

pub receive_gap : (P : Description) (h : List Event) (b : Bus) (c d s n : ℕ) → ReceiveReady P h b c d s n → out P (asked b c d h) (Gap b) ≡ Silence
receive_gap P h b c d s n r = gap_out P (asked b c d h) b Nothing (receive_ends P h b c d s n r)

-- what has followed
abbrev entries : (ℕ → ℕ) → ℕ → List Entry
entries v zero = []
entries v (suc k) = unheard (Some (valid_word Dat (v (suc k)))) ∷ entries v k

abbrev receive_open : ℕ → ℕ → (ℕ → ℕ) → ℕ → Open
receive_open c a v zero = Waits c a
receive_open c a v (suc k) = Resumes c (entries v k)

resumes : (c a st : ℕ) → address_of st ≡ a → after_entry (unheard (Some (valid_word Com st))) (Waits c a) ≡ Resumes c []
resumes c a st e = λ j. if valid Com st j && eq-eqb (address_of st) a e j then Resumes c [] else Idle

pub receive_slots : (P : Description) (h : List Event) (b : Bus) (c d s n st : ℕ) (v : ℕ → ℕ) → ReceiveReady P h b c d s n → address_of st ≡ address_of d → (k : ℕ) →
    At P (heard_hist b (sent_at b st v) k (gapped b c d h)) b (receive_open c (address_of d) v k) None
receive_slots P h b c d s n st v r e zero = receive_gapped P h b c d s n r
receive_slots P h b c d s n st v r e (suc zero) =
    let other : address_of st ≢ P.address = (λ q. r.d_other (sym e ∙ q)) in
    let own : is_broadcast st ≡ false = ap (λ a. a == 31) e ∙ r.d_own in
    let a = slot_at P (gapped b c d h) b (Waits c (address_of d)) None (receive_gapped P h b c d s n r) in
    let n : At P (heard_hist b (sent_at b st v) 1 (gapped b c d h)) b (after_entry (unheard (Some (valid_word Com st))) (Waits c (address_of d))) None =
    not_for_at P (Slot ∷ gapped b c d h) b (valid_word Com st) (Waits c (address_of d)) a (other_command P st other own) in
    record { message = n.message ∙ resumes c (address_of d) st e; reply = n.reply }
receive_slots P h b c d s n st v r e (suc (suc k)) =
    let before = receive_slots P h b c d s n st v r e (suc k) in
    let a = slot_at P (heard_hist b (sent_at b st v) (suc k) (gapped b c d h)) b (receive_open c (address_of d) v (suc k)) None before in
    not_for_at P (Slot ∷ heard_hist b (sent_at b st v) (suc k) (gapped b c d h)) b (valid_word Dat (v (suc k))) (receive_open c (address_of d) v (suc k)) a refl

receive_steady : (P : Description) (h : List Event) (b : Bus) (c d s n st : ℕ) (v : ℕ → ℕ) → ReceiveReady P h b c d s n → address_of st ≡ address_of d → (k : ℕ) →
    Steady P b (past P (heard_hist b (sent_at b st v) k (gapped b c d h))) (past P h)
receive_steady P h b c d s n st v r e zero =
    steady_then P b _ _ _ (gap_steady P (asked b c d h) b (subst IsPlain (sym (receive_ends P h b c d s n r)) tt)) (asked_steady P h b c d)
receive_steady P h b c d s n st v r e (suc k) =
    let g : List Event = heard_hist b (sent_at b st v) k (gapped b c d h) in
    steady_then P b _ _ _ (word_steady P (Slot ∷ g) b b (word_of (sent_at b st v k)))
    (steady_then P b _ _ _ (slot_steady P g b None (receive_slots P h b c d s n st v r e k).reply refl) (receive_steady P h b c d s n st v r e k))

abbrev pub words_to : (ℕ → ℕ) → ℕ → List ℕ
words_to v zero = []
words_to v (suc k) = words_to v k ++ v (suc k) ∷ []

all_data : (v : ℕ → ℕ) (k : ℕ) → data_words (entries v k) ≡ Some (words_to v k)
all_data v zero = refl
all_data v (suc k) = λ j. with_word (all_data v k j) (if valid Dat (v (suc k)) j then Some (v (suc k)) else None)

counted : (v : ℕ → ℕ) (k : ℕ) → length (words_to v k) ≡ k
counted v zero = refl
counted v (suc k) = length-append (words_to v k) (v (suc k) ∷ []) ∙ (ap (λ m. m + 1) (counted v k) ∙ omega arith)

receive_done : (P : Description) (h : List Event) (b : Bus) (c d s n st : ℕ) (v : ℕ → ℕ) → ReceiveReady P h b c d s n → address_of st ≡ address_of d →
    ends_now P (past P (heard_hist b (sent_at b st v) (suc n) (gapped b c d h))) (Gap b) ≡ Done c (OwnReceive s n) (words_to v n)
receive_done P h b c d s n st v r e =
    let g : List Event = heard_hist b (sent_at b st v) (suc n) (gapped b c d h) in
    let busy : flag_now (past P g) Busy ≡ false = (receive_steady P h b c d s n st v r e (suc n)).flags Busy ∙ r.free in
    let count : length (words_to v n) ≡ expected c = counted v n ∙ sym (receives_law c s n r.cell).count in
    gap_ends P g b (Resumes c (entries v n)) (receive_slots P h b c d s n st v r e (suc n))
    ∙ ((λ j. ends_with P (busy j) c (if_expected c (all_data v n j)) None)
    ∙ ((λ j. ends_with P false c (if eq-eqb (length (words_to v n)) (expected c) count j then Some (words_to v n) else None) None)
    ∙ ((λ j. verdict P.legal false c (words_to v n) (r.cell j))
    ∙ (λ j. if r.legal j then Done c (OwnReceive s n) (words_to v n) else Illegal c))))

pub receive_out : (P : Description) (h : List Event) (b : Bus) (c d s n st : ℕ) (v : ℕ → ℕ) → ReceiveReady P h b c d s n → address_of st ≡ address_of d →
    out P (heard_hist b (sent_at b st v) (suc n) (gapped b c d h)) (Gap b) ≡ HandsOver (HandsReceived false s (words_to v n))
receive_out P h b c d s n st v r e = gap_out P (heard_hist b (sent_at b st v) (suc n) (gapped b c d h)) b (Done c (OwnReceive s n) (words_to v n)) (receive_done P h b c d s n st v r e)

pub receive_status : (P : Description) (h : List Event) (b : Bus) (c d s n st : ℕ) (v : ℕ → ℕ) → ReceiveReady P h b c d s n → address_of st ≡ address_of d →
    out P (Gap b ∷ heard_hist b (sent_at b st v) (suc n) (gapped b c d h)) Slot ≡ SendsWord (sending b Com (status_of P h c (OwnReceive s n)))
receive_status P h b c d s n st v r e =
    let g : List Event = heard_hist b (sent_at b st v) (suc n) (gapped b c d h) in
    let x : Ending = Done c (OwnReceive s n) (words_to v n) in
    let steady : Steady P b (past P g) (past P h) = receive_steady P h b c d s n st v r e (suc n) in
    let off : off_now (past P g) b ≡ false = steady.off ∙ r.on in
    let own : is_broadcast c ≡ false = (receives_law c s n r.cell).own in
    let a = gap_at P g b (Resumes c (entries v n)) x (receive_slots P h b c d s n st v r e (suc n)) (receive_done P h b c d s n st v r e) in
    let kept : kept_now P (past P (Gap b ∷ g)) ≡ formed_done P (past P h) c (OwnReceive s n) =
    kept_at_gap P g b c (OwnReceive s n) (words_to v n) (receive_done P h b c d s n st v r e) refl refl refl ∙ formed_steady P b (past P g) (past P h) c (OwnReceive s n) steady in
    slot_out P (Gap b ∷ g) (Some (record { bus = b; cell = Some (OwnReceive s n); number = 0 }))
    (a.reply ∙ (λ j. begun_if (not (own j || off j)) b (Some (OwnReceive s n)) None))
    ∙ (λ j. SendsWord (sending b Com (status_word P.address (kept j))))

-- any other
pub record OtherReady (P : Description) (h : List Event) (b : Bus) (c d : ℕ) (o : Open) : Type 0 where
  pub at : At P h b o None
  pub waiting : is_waiting o ≡ false
  pub c_other : address_of c ≢ P.address
  pub c_own : is_broadcast c ≡ false
  pub d_other : address_of d ≢ P.address
  pub d_own : is_broadcast d ≡ false

abbrev spoiled : Open → ℕ → ℕ → Open
spoiled o c d = after_entry (second d) (after_entry (second c) o)

other_asked : (P : Description) (h : List Event) (b : Bus) (c d : ℕ) (o : Open) → OtherReady P h b c d o → At P (asked b c d h) b (spoiled o c d) None
other_asked P h b c d o r =
    not_for_at P (Word b (valid_word Com c) ∷ h) b (valid_word Com d) (after_entry (second c) o)
    (not_for_at P h b (valid_word Com c) o r.at (other_command P c r.c_other r.c_own)) (other_command P d r.d_other r.d_own)

-- such an end is silent, and nothing goes on
record Ended (P : Description) (o : Open) (x : Ending) : Type 0 where
  pub silent : handing_over (hands P x) ≡ Silence
  pub unanswered : (off : Bool) → is_answered off x ≡ false
  pub over : after_gap P o ≡ Idle

badly : (P : Description) (busy : Bool) (c : ℕ) (m : Option (List ℕ)) → ends_with P busy c (if_expected c (with_word m None)) None ≡ Badly c
badly P busy c None = refl
badly P busy c (Some ds) = refl

ended_badly : (P : Description) (o : Open) (c : ℕ) (x : Ending) → x ≡ Badly c → after_gap P o ≡ Idle → Ended P o x
ended_badly P o c x e f = record { silent = ap (λ x. handing_over (hands P x)) e; unanswered = λ off. ap (is_answered off) e; over = f }

other_ended : (P : Description) (busy : Bool) (o : Open) (c d : ℕ) → is_waiting o ≡ false → Ended P (spoiled o c d) (at_gap P busy (spoiled o c d))
other_ended P busy Idle c d w = record { silent = refl; unanswered = λ off. refl; over = refl }
other_ended P busy (Collects e after) c d w =
    ended_badly P (spoiled (Collects e after) c d) e (at_gap P busy (spoiled (Collects e after) c d)) (badly P busy e (with_word (data_words after) None)) refl
other_ended P busy (Waits e a) c d w = cc
other_ended P busy (Resumes e after) c d w =
    ended_badly P (spoiled (Resumes e after) c d) e (at_gap P busy (spoiled (Resumes e after) c d)) (badly P busy e (with_word (data_words after) None)) refl

pub other_gap : (P : Description) (h : List Event) (b : Bus) (c d : ℕ) (o : Open) → OtherReady P h b c d o → (out P (asked b c d h) (Gap b) ≡ Silence) × At P (gapped b c d h) b Idle None
other_gap P h b c d o r =
    let busy : Bool = flag_now (past P (asked b c d h)) Busy in
    let x : Ending = at_gap P busy (spoiled o c d) in
    let is : ends_now P (past P (asked b c d h)) (Gap b) ≡ x = gap_ends P (asked b c d h) b (spoiled o c d) (other_asked P h b c d o r) in
    let ended : Ended P (spoiled o c d) x = other_ended P busy o c d r.waiting in
    let a = gap_at P (asked b c d h) b (spoiled o c d) x (other_asked P h b c d o r) is in (
      gap_out P (asked b c d h) b x is ∙ ended.silent,
      record { message = a.message ∙ ended.over; reply = a.reply ∙ ap (λ t. begun_if t b (done_cell x) None) (ended.unanswered (off_now (past P (asked b c d h)) b)) },
    )

pub other_slots : (P : Description) (h : List Event) (b : Bus) (c d : ℕ) (o : Open) (st : ℕ) (v : ℕ → ℕ) → OtherReady P h b c d o → address_of st ≡ address_of d → (k : ℕ) →
    At P (heard_hist b (sent_at b st v) k (gapped b c d h)) b Idle None
other_slots P h b c d o st v r e zero = (other_gap P h b c d o r).1
other_slots P h b c d o st v r e (suc zero) =
    let other : address_of st ≢ P.address = (λ q. r.d_other (sym e ∙ q)) in
    let own : is_broadcast st ≡ false = ap (λ a. a == 31) e ∙ r.d_own in
    not_for_at P (Slot ∷ gapped b c d h) b (valid_word Com st) Idle (slot_at P (gapped b c d h) b Idle None (other_gap P h b c d o r).1) (other_command P st other own)
other_slots P h b c d o st v r e (suc (suc k)) =
    let g : List Event = heard_hist b (sent_at b st v) (suc k) (gapped b c d h) in
    not_for_at P (Slot ∷ g) b (valid_word Dat (v (suc k))) Idle (slot_at P g b Idle None (other_slots P h b c d o st v r e (suc k))) refl
