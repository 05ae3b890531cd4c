-- A description that agrees where it can be asked for answers alike, whatever comes.
use Rattle.std.proofs.Common.{◌≡◌, ℕ, ◌≤◌, Bool, true, false, ◌==◌, nat_le, if◌then◌else◌, Option, Some, None, List, [], ◌∷◌, refl, ap, ◌∙◌, arith}
use Rattle.std.proofs.lemmas.Bool.Decides.{nat_tests}
use Rattle.bus_word.specs.declared.word.Bus.{Bus}
use Rattle.bus_word.specs.declared.word.Kind.TheVariants.{Com, Dat}
use Rattle.bus_word.specs.declared.cell.Cell.{Cell}
use Rattle.bus_word.specs.declared.cell.Cell.TheVariants.{OwnReceive, OwnTransmit, BroadReceive, OwnMode, BroadMode}
use Rattle.bus_word.specs.Status.{status_word}
use Rattle.bus_legal.specs.Description.{Description}
use Rattle.terminal_rules.specs.declared.event.Event.{Event}
use Rattle.terminal_rules.specs.declared.event.Event.TheVariants.{Word, Noise, Gap, Write, Vector, Bit, Flag as FlagIs, Slot}
use Rattle.terminal_rules.specs.declared.event.Flag.TheVariants.{Busy}
use Rattle.terminal_rules.specs.LookBack.{latest, or_else, since, some}
use Rattle.terminal_rules.specs.History.{Noted, NoTurn, Replying, Ending, Nothing, Badly, Illegal, Blocked, Done}
use Rattle.terminal_rules.specs.Open.{open_now}
use Rattle.terminal_rules.specs.Reply.{words_after_status, begun, begins_reply, supersedes, slots_in, reply_after, reply_of, reply_now}
use Rattle.terminal_rules.specs.Flags.{flag_now}
use Rattle.terminal_rules.specs.Ends.{unless_ignored, ends_now}
use Rattle.terminal_rules.specs.SinceReset.{since_reset, vector_word_set, vector_now, bit_word_set, bit_now, last_now, off_now}
use Rattle.terminal_rules.specs.Status.{kept_now}
use Rattle.terminal_rules.specs.Turn.{is_answered, done_cell, turn_of_gap, turn_of_slot, unless_ignored_turn}
use Rattle.terminal_rules.specs.Past.{note, past}
use Rattle.terminal_rules.specs.Out.{code_word, reply_word, sending, sends, Handing, HandsSynchronize, HandsSynchronizeWith, HandsSelfTest, HandsBusControl, first_word, code_hands, hands, handing_over, sending_out, out_now, out}
use Rattle.terminal_rules.proofs.Reach.Heard.{CanBeDone, DoesWhatItCan, AllDoWhatTheyCan, IsMeant, open_meant, event_can, past_can}
use Rattle.terminal_rules.proofs.Reach.Agrees.{Agrees, addressed}
use Rattle.terminal_rules.proofs.Reach.Past.{at_gap_alike, past_alike}
use Rattle.terminal_rules.proofs.Reach.Kept.{legal_at, kept_alike}
use Rattle.terminal_rules.proofs.Reach.Held.{held_alike}
use Rattle.terminal_rules.specs.Steps.{replies_on}

-- the data word that goes with a mode code, by the code
chosen_word : (is_16 is_18 is_19 : Bool) (v w last b d : ℕ) → (is_16 ≡ true → v ≡ w) → (is_19 ≡ true → b ≡ d) →
    (if is_16 then v else if is_18 then last else if is_19 then b else 0) ≡ (if is_16 then w else if is_18 then last else if is_19 then d else 0)
chosen_word true is_18 is_19 v w last b d f g = f refl
chosen_word false true is_19 v w last b d f g = refl
chosen_word false false true v w last b d f g = g refl
chosen_word false false false v w last b d f g = refl

code_word_alike : (P R : Description) → Agrees P R → (h : List Noted) (code : ℕ) → P.legal (OwnMode code) ≡ true → code_word (addressed P R) h code ≡ code_word P h code
code_word_alike P R a h code l =
    chosen_word (code == 16) (code == 18) (code == 19) (vector_now (addressed P R) h) (vector_now P h) (last_now h) (bit_now (addressed P R) h) (bit_now P h)
    (λ e. ap (or_else (latest (λ p. vector_word_set p.event) (since_reset h))) (a.vector (legal_at P code 16 l e)))
    (λ e. ap (or_else (latest (λ p. bit_word_set p.event) (since_reset h))) (a.bit (legal_at P code 19 l e)))

-- the cell of a reply is one that can be done, and its next word is one of its words
abbrev pub CellCan : Description → Option Cell → Type 0
CellCan P None = Unit {0}
CellCan P (Some cell) = CanBeDone P cell

pub record ReplyCan (P : Description) (r : Replying) : Type 0 where
  pub cell : CellCan P r.cell
  pub number : nat_le r.number (words_after_status r.cell) ≡ true

abbrev pub NextCan : Description → Option Replying → Type 0
NextCan P None = Unit {0}
NextCan P (Some r) = ReplyCan P r

done_can : (P : Description) (x : Ending) → DoesWhatItCan P x → CellCan P (done_cell x)
done_can P Nothing can = tt
done_can P (Badly c) can = tt
done_can P (Illegal c) can = tt
done_can P (Blocked c cell) can = tt
done_can P (Done c cell ds) can = can

abbrev begun_cell : Option (Bus × Option Cell) → Option Cell
begun_cell None = None
begun_cell (Some r) = r.1

gap_turn_can : (P : Description) (i a : Bool) (b : Bus) (x : Ending) → DoesWhatItCan P x → CellCan P (begun_cell (begun (unless_ignored_turn i (turn_of_gap b a (done_cell x)))))
gap_turn_can P true a b x can = tt
gap_turn_can P false true b x can = done_can P x can
gap_turn_can P false false b x can = tt

entry_turn_can : (P : Description) (i : Bool) → CellCan P (begun_cell (begun (unless_ignored_turn i NoTurn)))
entry_turn_can P true = tt
entry_turn_can P false = tt

slot_turn_can : (P : Description) (r : Option Replying) → CellCan P (begun_cell (begun (turn_of_slot r)))
slot_turn_can P None = tt
slot_turn_can P (Some r) = tt

turn_can : (P : Description) → P.address ≤ 30 → (h : List Noted) (e : Event) → ((b : Bus) → IsMeant P (open_now P h b)) → CellCan P (begun_cell (begun (note P h e).turn))
turn_can P low h (Word b w) m = entry_turn_can P (replies_on h b)
turn_can P low h (Noise b) m = entry_turn_can P (replies_on h b)
turn_can P low h (Gap b) m = gap_turn_can P (replies_on h b) (is_answered (off_now h b) (ends_now P h (Gap b))) b (ends_now P h (Gap b)) (event_can P low h (Gap b) m)
turn_can P low h (Write q v) m = tt
turn_can P low h (Vector v) m = tt
turn_can P low h (Bit v) m = tt
turn_can P low h (FlagIs f v) m = tt
turn_can P low h Slot m = slot_turn_can P (reply_now h)

first_can : (P : Description) (o l : Option (Bus × Option Cell)) → CellCan P (begun_cell o) → CellCan P (begun_cell l) →
    CellCan P (begun_cell (elim o as (λ o. Option (Bus × Option Cell)) [ None ↦ l | Some y ↦ Some y ]))
first_can P None l e f = f
first_can P (Some r) l e f = e

begun_can : (P : Description) → P.address ≤ 30 → (h : List Event) → CellCan P (begun_cell (latest (λ p. begun p.turn) (past P h)))
begun_can P low [] = tt
begun_can P low (e ∷ h) =
    first_can P (begun (note P (past P h) e).turn) (latest (λ p. begun p.turn) (past P h)) (turn_can P low (past P h) e (open_meant P h)) (begun_can P low h)

after_can : (P : Description) (b : Bus) (cell : Option Cell) (superseded : Bool) (m : ℕ) → CellCan P cell → NextCan P (reply_after b cell superseded m)
after_can P b cell true m can = tt
after_can P b cell false m can = by_test (nat_le m (words_after_status cell)) refl
  where
    by_test : (t : Bool) → nat_le m (words_after_status cell) ≡ t → NextCan P (if t then Some (record { bus = b; cell = cell; number = m }) else None)
    by_test true e = record { cell = can; number = e }
    by_test false e = tt

of_can : (P : Description) (l : List Noted) (o : Option (Bus × Option Cell)) → CellCan P (begun_cell o) → NextCan P (reply_of l o)
of_can P l None can = tt
of_can P l (Some r) can = after_can P r.0 r.1 (some (supersedes r.0) l) (slots_in l) can

pub reply_can : (P : Description) → P.address ≤ 30 → (h : List Event) → NextCan P (reply_now (past P h))
reply_can P low h = of_can P (since begins_reply (past P h)) (latest (λ p. begun p.turn) (past P h)) (begun_can P low h)

first_number : (m : ℕ) → (m == 0) ≡ false → 1 ≤ m
first_number m e = grind (arith, nat_tests)

last_number : (m n : ℕ) → nat_le m n ≡ true → m ≤ n
last_number m n e = grind (arith, nat_tests)

word_alike : (P R : Description) → Agrees P R → (h : List Noted) → AllDoWhatTheyCan P h → (cell : Option Cell) (m : ℕ) → CellCan P cell → nat_le m (words_after_status cell) ≡ true → (m == 0) ≡ false →
    reply_word (addressed P R) h cell m ≡ reply_word P h cell m
word_alike P R a h all None m can e f = refl
word_alike P R a h all (Some (OwnReceive s n)) m can e f = refl
word_alike P R a h all (Some (OwnTransmit s n)) m can e f = held_alike P R a s n m can.legal can.allowed (first_number m f) (last_number m n e) h all
word_alike P R a h all (Some (BroadReceive s n)) m can e f = refl
word_alike P R a h all (Some (OwnMode code)) m can e f = code_word_alike P R a h code can.legal
word_alike P R a h all (Some (BroadMode code)) m can e f = refl

sends_alike : (P R : Description) → Agrees P R → (h : List Noted) → AllDoWhatTheyCan P h → (r : Option Replying) → NextCan P r → sends (addressed P R) h r ≡ sends P h r
sends_alike P R a h all None can = refl
sends_alike P R a h all (Some r) can = by_status (r.number == 0) refl
  where
    by_status : (t : Bool) → (r.number == 0) ≡ t →
        Some (if t then sending r.bus Com (status_word P.address (kept_now (addressed P R) h)) else sending r.bus Dat (reply_word (addressed P R) h r.cell r.number))
        ≡ Some (if t then sending r.bus Com (status_word P.address (kept_now P h)) else sending r.bus Dat (reply_word P h r.cell r.number))
    by_status true e = ap (λ k. Some (sending r.bus Com (status_word P.address k))) (kept_alike P R a h all)
    by_status false e = ap (λ w. Some (sending r.bus Dat w)) (word_alike P R a h all r.cell r.number can.cell can.number e)

-- what a mode code other than dynamic bus control hands over
abbrev other_hands : ℕ → List ℕ → Option Handing
other_hands code ds =
    if code == 1 then Some HandsSynchronize
    else if code == 3 then Some HandsSelfTest
    else if code == 17 then Some (HandsSynchronizeWith (first_word ds))
    else None

code_hands_alike : (code : ℕ) (x y : Bool) (ds : List ℕ) → (code == 0 ≡ true → x ≡ y) → code_hands code x ds ≡ code_hands code y ds
code_hands_alike code x y ds f = by_test (code == 0) f
  where
    by_test : (t : Bool) → (t ≡ true → x ≡ y) →
        (if t then (if x then Some HandsBusControl else None) else other_hands code ds) ≡ (if t then (if y then Some HandsBusControl else None) else other_hands code ds)
    by_test true f = ap (λ b. if b then Some HandsBusControl else None) (f refl)
    by_test false f = refl

hands_alike : (P R : Description) → Agrees P R → (x : Ending) → DoesWhatItCan P x → hands (addressed P R) x ≡ hands P x
hands_alike P R a Nothing can = refl
hands_alike P R a (Badly c) can = refl
hands_alike P R a (Illegal c) can = refl
hands_alike P R a (Blocked c cell) can = refl
hands_alike P R a (Done c (OwnReceive s n) ds) can = refl
hands_alike P R a (Done c (OwnTransmit s n) ds) can = refl
hands_alike P R a (Done c (BroadReceive s n) ds) can = refl
hands_alike P R a (Done c (OwnMode code) ds) can = code_hands_alike code R.accept P.accept ds (λ e. a.accept (legal_at P code 0 can.legal e))
hands_alike P R a (Done c (BroadMode code) ds) can = refl

out_now_alike : (P R : Description) → Agrees P R → P.address ≤ 30 → (h : List Noted) → AllDoWhatTheyCan P h → ((b : Bus) → IsMeant P (open_now P h b)) → NextCan P (reply_now h) → (e : Event) →
    out_now (addressed P R) h e ≡ out_now P h e
out_now_alike P R a low h all m n (Word b w) = refl
out_now_alike P R a low h all m n (Noise b) = refl
out_now_alike P R a low h all m n (Gap b) =
    ap (λ x. handing_over (hands (addressed P R) (unless_ignored (replies_on h b) x))) (at_gap_alike P R a low (flag_now h Busy) (open_now P h b) (m b))
    ∙ ap handing_over (hands_alike P R a (ends_now P h (Gap b)) (event_can P low h (Gap b) m))
out_now_alike P R a low h all m n (Write q v) = refl
out_now_alike P R a low h all m n (Vector v) = refl
out_now_alike P R a low h all m n (Bit v) = refl
out_now_alike P R a low h all m n (FlagIs f v) = refl
out_now_alike P R a low h all m n Slot = ap sending_out (sends_alike P R a h all (reply_now h) n)

pub out_alike : (P R : Description) → Agrees P R → P.address ≤ 30 → (h : List Event) (e : Event) → out (addressed P R) h e ≡ out P h e
out_alike P R a low h e =
    ap (λ k. out_now (addressed P R) k e) (past_alike P R a low h)
    ∙ out_now_alike P R a low (past P h) (past_can P low h) (open_meant P h) (reply_can P low h) e
