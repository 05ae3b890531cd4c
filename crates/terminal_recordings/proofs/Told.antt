-- What a recording tells of the subsystem, before an event.
use Rattle.std.proofs.Common.{◌≡◌, ℕ, ◌<◌, ◌^◌, Bool, true, false, ◌&&◌, ◌==◌, nat_le, if◌then◌else◌, Option, Some, None, List, [], ◌∷◌, ◌++◌, refl, ap, sym, ◌∙◌, arith, eq-eqb}
use Rattle.std.proofs.lemmas.Bool.Decides.{nat_tests}
use Rattle.bus_word.specs.declared.cell.Cell.{Cell}
use Rattle.bus_word.specs.declared.cell.Cell.TheVariants.{OwnReceive, OwnTransmit, BroadReceive, OwnMode, BroadMode}
use Rattle.bus_word.specs.Cell.{is_data_place}
use Rattle.bus_word.specs.Word.{is_command_sync}
use Rattle.bus_word.specs.Mode.{last_command}
use Rattle.bus_legal.specs.Description.{Description}
use Rattle.terminal_rules.specs.declared.event.Event.{Event}
use Rattle.terminal_rules.specs.declared.event.Event.TheVariants.{Write, Vector, Bit}
use Rattle.terminal_rules.specs.declared.event.Flag.{Flag}
use Rattle.terminal_rules.specs.declared.event.Flag.TheVariants.{Service, Busy, Subsystem, Terminal}
use Rattle.terminal_rules.specs.LookBack.{or_else}
use Rattle.terminal_rules.specs.History.{Replying}
use Rattle.terminal_rules.specs.Reply.{words_after_status, reply_now}
use Rattle.terminal_rules.specs.Flags.{flag_set, flag_now}
use Rattle.terminal_rules.specs.SinceReset.{vector_now, last_now, bit_now, held_now, either_word}
use Rattle.terminal_rules.specs.Past.{note, past, history_after}
use Rattle.terminal_rules.specs.Same.{AreProper}
use Rattle.terminal_rules.specs.Out.{Sending, reply_word, out, sent_in}
use Rattle.terminal_rules.proofs.BackLaw.{flag_step, held_step}
use Rattle.terminal_rules.proofs.Reach.Kept.{legal_at}
use Rattle.terminal_rules.proofs.Reach.Answers.{CellCan}
use Rattle.terminal_recordings.specs.Recordings.{Sighting, is_seen, AreUnseen, seen_then, sightings_from, HasBits}
use Rattle.terminal_recordings.specs.Completion.{data_sent, next_status, flag_shown, flags_set, word_set, next_set, told_before, completion_from, shown_from}
use Rattle.terminal_recordings.proofs.Summary.{reported_last, summary, quiet_law}

pub summary_quiet : (P : Description) (xs h : List Event) → AreUnseen xs → summary P (past P (history_after xs h)) ≡ summary P (past P h)
summary_quiet P [] h q = refl
summary_quiet P (x ∷ xs) h (u, q) = summary_quiet P xs (x ∷ h) q ∙ quiet_law P (past P h) x u

pub sightings_quiet : (P : Description) (xs h es : List Event) → AreUnseen xs → sightings_from P h (xs ++ es) ≡ sightings_from P (history_after xs h) es
sightings_quiet P [] h es q = refl
sightings_quiet P (x ∷ xs) h es (u, q) =
    ap (λ t. if t then record { event = x; sent = sent_in (out P h x) } ∷ sightings_from P (x ∷ h) (xs ++ es) else sightings_from P (x ∷ h) (xs ++ es)) u
    ∙ sightings_quiet P xs (x ∷ h) es q

-- those that set no flag
abbrev KeepFlags : List Event → Type 0
KeepFlags [] = Unit {0}
KeepFlags (e ∷ es) = ((f : Flag) → flag_set f e ≡ None) × KeepFlags es

flags_kept : (P : Description) (xs h : List Event) (f : Flag) → KeepFlags xs → flag_now (past P (history_after xs h)) f ≡ flag_now (past P h) f
flags_kept P [] h f k = refl
flags_kept P (x ∷ xs) h f (u, k) =
    flags_kept P xs (x ∷ h) f k ∙ (flag_step f (note P (past P h) x) (past P h) ∙ ap (λ o. or_else o (flag_now (past P h) f)) (u f))

-- the words that are given are such events, and can come
abbrev AreWords : List Event → Type 0
AreWords es = AreUnseen es × KeepFlags es

write_words : (b : Bool) (e : Event) → is_seen e ≡ false → ((f : Flag) → flag_set f e ≡ None) → (es : List Event) → AreWords es → AreWords (if b then e ∷ [] else es)
write_words true e u k es a = ((u, tt), (k, tt))
write_words false e u k es a = a

set_words : (cell : Option Cell) (m v : ℕ) → AreWords (word_set cell m v)
set_words None m v = (tt, tt)
set_words (Some (OwnReceive s n)) m v = (tt, tt)
set_words (Some (OwnTransmit s n)) m v = write_words (is_data_place s m) (Write (record { subaddress = s; number = m }) v) refl (λ f. no_write f) [] (tt, tt)
  where
    no_write : (f : Flag) → flag_set f (Write (record { subaddress = s; number = m }) v) ≡ None
    no_write Service = refl
    no_write Busy = refl
    no_write Subsystem = refl
    no_write Terminal = refl
set_words (Some (BroadReceive s n)) m v = (tt, tt)
set_words (Some (OwnMode code)) m v = write_words (code == 16) (Vector v) refl (λ f. no_vector f) _ (write_words (code == 19) (Bit v) refl (λ f. no_bit f) [] (tt, tt))
  where
    no_vector : (f : Flag) → flag_set f (Vector v) ≡ None
    no_vector Service = refl
    no_vector Busy = refl
    no_vector Subsystem = refl
    no_vector Terminal = refl

    no_bit : (f : Flag) → flag_set f (Bit v) ≡ None
    no_bit Service = refl
    no_bit Busy = refl
    no_bit Subsystem = refl
    no_bit Terminal = refl
set_words (Some (BroadMode code)) m v = (tt, tt)

pub next_words : (r : Option Replying) (v : Option ℕ) → AreWords (next_set r v)
next_words None v = (tt, tt)
next_words (Some r) None = (tt, tt)
next_words (Some r) (Some v) = set_words r.cell r.number v

pub told_quiet : (P : Description) (h : List Event) (s : Sighting) (later : List Sighting) → AreUnseen (told_before P h s later)
told_quiet P h s later = (refl, (refl, (refl, (refl, (next_words (reply_now (past P h)) (data_sent s.sent)).0))))

-- the flags are then as they are shown
pub told_flags : (P : Description) (h : List Event) (s : Sighting) (later : List Sighting) (f : Flag) →
    flag_now (past P (history_after (told_before P h s later) h)) f ≡ flag_shown (next_status (s ∷ later)) f
told_flags P h s later f =
    flags_kept P (next_set (reply_now (past P h)) (data_sent s.sent)) (history_after (flags_set (next_status (s ∷ later))) h) f (next_words (reply_now (past P h)) (data_sent s.sent)).1 ∙ by_flag f
  where
    by_flag : (f : Flag) → flag_now (past P (history_after (flags_set (next_status (s ∷ later))) h)) f ≡ flag_shown (next_status (s ∷ later)) f
    by_flag Service = refl
    by_flag Busy = refl
    by_flag Subsystem = refl
    by_flag Terminal = refl

-- what is shown of a recording, by its first sighting
pub shown_step : (P : Description) (h : List Event) (s : Sighting) (later : List Sighting) → is_seen s.event ≡ true →
    (let k : List Event = history_after (told_before P h s later) h in
    shown_from P h (s ∷ later) ≡ record { event = s.event; sent = sent_in (out P k s.event) } ∷ shown_from P (s.event ∷ k) later)
shown_step P h s later seen =
    let k : List Event = history_after (told_before P h s later) h in
    sightings_quiet P (told_before P h s later) h (s.event ∷ completion_from P (s.event ∷ k) later) (told_quiet P h s later)
    ∙ ap (λ t. if t then record { event = s.event; sent = sent_in (out P k s.event) } ∷ shown_from P (s.event ∷ k) later else shown_from P (s.event ∷ k) later) seen

-- the word that is given is the one that is sent
place_of : (s m n : ℕ) → is_data_place s n ≡ true → nat_le m n ≡ true → (m == 0) ≡ false → is_data_place s m ≡ true
place_of s m n p q r = grind (arith, nat_tests)

same_place : (s m : ℕ) → (s == s) && (m == m) ≡ true
same_place s m = λ j. eq-eqb s s refl j && eq-eqb m m refl j

held_given : (P : Description) (k : List Event) (s m v : ℕ) → held_now P (past P (Write (record { subaddress = s; number = m }) v ∷ k)) s m ≡ v
held_given P k s m v =
    held_step P s m (note P (past P k) (Write (record { subaddress = s; number = m }) v)) (past P k)
    ∙ ap (λ t. or_else (either_word (if t then Some v else None) None) (held_now P (past P k) s m)) (same_place s m)

code_given : (P : Description) (k : List Event) (v vector last bit : ℕ) (is_16 is_18 is_19 : Bool) → (is_18 ≡ true → last_now (past P k) ≡ last) →
    v ≡ (if is_16 then vector else if is_18 then last else if is_19 then bit else 0) →
    (let h : List Event = history_after (if is_16 then Vector v ∷ [] else if is_19 then Bit v ∷ [] else []) k in
    (if is_16 then vector_now P (past P h) else if is_18 then last_now (past P h) else if is_19 then bit_now P (past P h) else 0) ≡ v)
code_given P k v vector last bit true is_18 is_19 l e = refl
code_given P k v vector last bit false true true l e = l refl ∙ sym e
code_given P k v vector last bit false true false l e = l refl ∙ sym e
code_given P k v vector last bit false false true l e = refl
code_given P k v vector last bit false false false l e = sym e

pub word_given : (P : Description) (h k : List Event) (cell : Option Cell) (m v : ℕ) → CellCan P cell → nat_le m (words_after_status cell) ≡ true → (m == 0) ≡ false →
    reported_last P (last_now (past P k)) ≡ reported_last P (last_now (past P h)) → v ≡ reply_word P (past P h) cell m → reply_word P (past P (history_after (word_set cell m v) k)) cell m ≡ v
word_given P h k None m v can few first last e = sym e
word_given P h k (Some (OwnReceive s n)) m v can few first last e = sym e
word_given P h k (Some (OwnTransmit s n)) m v can few first last e =
    ap (λ t. held_now P (past P (history_after (if t then Write (record { subaddress = s; number = m }) v ∷ [] else []) k)) s m) (place_of s m n can.allowed few first)
    ∙ held_given P k s m v
word_given P h k (Some (BroadReceive s n)) m v can few first last e = sym e
word_given P h k (Some (OwnMode code)) m v can few first last e =
    code_given P k v (vector_now P (past P h)) (last_now (past P h)) (bit_now P (past P h)) (code == 16) (code == 18) (code == 19)
    (λ q. reported (last_now (past P k)) (last_now (past P h)) (legal_at P code 18 can.legal q) last) e
  where
    reported : (n m : ℕ) → P.legal (OwnMode last_command) ≡ true → reported_last P n ≡ reported_last P m → n ≡ m
    reported n m l q = sym (ap (λ t. if t then n else 0) l) ∙ (q ∙ ap (λ t. if t then m else 0) l)
word_given P h k (Some (BroadMode code)) m v can few first last e = sym e

-- what is told can come
set_proper : (cell : Option Cell) (m v : ℕ) → v < 2 ^ 16 → AreProper (word_set cell m v)
set_proper None m v small = tt
set_proper (Some (OwnReceive s n)) m v small = tt
set_proper (Some (OwnTransmit s n)) m v small = by_place (is_data_place s m) refl
  where
    by_place : (t : Bool) → is_data_place s m ≡ t → AreProper (if t then Write (record { subaddress = s; number = m }) v ∷ [] else [])
    by_place true e = ((e, small), tt)
    by_place false e = tt
set_proper (Some (BroadReceive s n)) m v small = tt
set_proper (Some (OwnMode code)) m v small = by_code (code == 16) (code == 19)
  where
    by_code : (t u : Bool) → AreProper (if t then Vector v ∷ [] else if u then Bit v ∷ [] else [])
    by_code true u = (small, tt)
    by_code false true = (small, tt)
    by_code false false = tt
set_proper (Some (BroadMode code)) m v small = tt

pub next_proper : (r : Option Replying) (o : Option Sending) → HasBits o → AreProper (next_set r (data_sent o))
next_proper None o small = tt
next_proper (Some r) None small = tt
next_proper (Some r) (Some s) small = by_sync (is_command_sync s.kind)
  where
    by_sync : (t : Bool) → AreProper (next_set (Some r) (if t then None else Some s.bits))
    by_sync true = tt
    by_sync false = set_proper r.cell r.number s.bits small

pub told_proper : (P : Description) (h : List Event) (s : Sighting) (later : List Sighting) → HasBits s.sent → AreProper (told_before P h s later)
told_proper P h s later small = (tt, (tt, (tt, (tt, next_proper (reply_now (past P h)) s.sent small))))

-- events and then more of them are seen
pub sightings_more : (P : Description) (xs h es : List Event) → sightings_from P h (xs ++ es) ≡ sightings_from P h xs ++ sightings_from P (history_after xs h) es
sightings_more P [] h es = refl
sightings_more P (x ∷ xs) h es = ap (seen_then x (out P h x)) (sightings_more P xs (x ∷ h) es) ∙ by_seen (is_seen x)
  where
    shows : Bool → List Sighting → List Sighting
    shows t rest = if t then record { event = x; sent = sent_in (out P h x) } ∷ rest else rest

    by_seen : (t : Bool) → shows t (sightings_from P (x ∷ h) xs ++ sightings_from P (history_after xs (x ∷ h)) es) ≡ shows t (sightings_from P (x ∷ h) xs) ++ sightings_from P (history_after xs (x ∷ h)) es
    by_seen true = refl
    by_seen false = refl
