-- The words that a terminal replies with stay as they were while its message goes on.
use Rattle.std.proofs.Common.{◌≡◌, ℕ, suc, Bool, true, false, ◌&&◌, ◌||◌, ◌==◌, if◌then◌else◌, Option, Some, None, List, [], ◌∷◌, refl, ap, sym, ◌∙◌, subst}
use Rattle.std.proofs.lemmas.Bool.{eqb-true}
use Rattle.bus_word.specs.declared.word.Bus.{Bus}
use Rattle.bus_word.specs.declared.word.Kind.TheVariants.{Com, Dat}
use Rattle.bus_word.specs.declared.cell.Cell.{Cell}
use Rattle.bus_word.specs.declared.cell.Cell.TheVariants.{OwnReceive, OwnTransmit, BroadReceive, OwnMode, BroadMode}
use Rattle.bus_word.specs.Word.{valid_word}
use Rattle.bus_word.specs.Cell.{cell_of}
use Rattle.bus_legal.specs.Description.{Description}
use Rattle.terminal_rules.specs.declared.event.Event.{Event}
use Rattle.terminal_rules.specs.declared.event.Event.TheVariants.{Word, Noise, Gap, Write, Vector, Bit, Flag as FlagIs, Slot}
use Rattle.terminal_rules.specs.Buses.{same_bus}
use Rattle.terminal_rules.specs.History.{Noted, Replying, Ending, Nothing, Badly, Illegal, Blocked, Done}
use Rattle.terminal_rules.specs.Open.{is_on, Idle, Collects}
use Rattle.terminal_rules.specs.Reply.{words_after_status, reply_bus, reply_now, ignores}
use Rattle.terminal_rules.specs.Starts.{is_meant, starts_now}
use Rattle.terminal_rules.specs.Ends.{unless_ignored, ends_now}
use Rattle.terminal_rules.specs.SinceReset.{is_reset, vector_word_set, vector_now, bit_word_set, bit_now, wrapped, held_set, held_now, start_bits, is_last_command_code, is_status_of_reset, recorded_by, last_now}
use Rattle.terminal_rules.specs.Past.{note, past, history_after}
use Rattle.terminal_rules.specs.Out.{reply_word}
use Rattle.terminal_rules.specs.Steps.{unless_reset}
use Rattle.terminal_rules.proofs.BackLaw.{vector_step, bit_step, held_step, last_step}
use Rattle.terminal_recordings.proofs.Summary.{started}
use Rattle.terminal_recordings.proofs.Endings.{effects}
use Rattle.terminal_schedules.specs.Formats.{data_on}
use Rattle.terminal_schedules.proofs.Seen.{Seen, seen_word, seen_ending, gap_ending}
use Rattle.terminal_schedules.proofs.Step.{SeenEvent, WordComes, NoiseComes, GapComes, SlotComes, seen_event, Shape, shape, ignored_law, ignored_by, start_by, start_law, end_by, end_law, reset_by, reset_law, masked, shown, shown_next, none_can, FlagComes, OtherComes}
use Rattle.terminal_schedules.proofs.Rests.{resting, IsOthers, word_rests, noise_rests}
use Rattle.terminal_schedules.proofs.Single.{collecting, datum, seen_datum, same_self, no_end, meant_command, data_seen, IsFormed, done_by, meant_collects, datum_collected, command_collects, asks_none}

-- an event that is no reset and sets none of the words
record Leaves (P : Description) (cell : Cell) (p : Noted) : Type 0 where
  pub reset : is_reset p ≡ false
  pub held : (s i : ℕ) → (let none : Option ℕ = None in held_set P s i p ≡ none)
  pub vector : (let none : Option ℕ = None in vector_word_set p.event ≡ none)
  pub bit : (let none : Option ℕ = None in bit_word_set p.event ≡ none)
  pub last : is_last_command_code (Some cell) ≡ true → (let none : Option ℕ = None in recorded_by (start_bits p) ≡ none)

-- the same words
abbrev pub SameWords : Description → Cell → List Noted → List Noted → Type 0
SameWords P cell k h = (i : ℕ) → reply_word P k (Some cell) i ≡ reply_word P h (Some cell) i

same_words : (P : Description) (cell : Cell) (p : Noted) (h : List Noted) → Leaves P cell p → SameWords P cell (p ∷ h) h
same_words P (OwnReceive s n) p h l i = refl
same_words P (BroadReceive s n) p h l i = refl
same_words P (BroadMode code) p h l i = refl
same_words P (OwnTransmit s n) p h l i = held_step P s i p h ∙ (λ j. unless_reset (l.reset j) (P.initial s i) (l.held s i j) (held_now P h s i))
same_words P (OwnMode code) p h l i = by_last (code == 18) refl
  where
    vectors : vector_now P (p ∷ h) ≡ vector_now P h
    vectors = vector_step P p h ∙ (λ j. unless_reset (l.reset j) P.vector (l.vector j) (vector_now P h))

    bits : bit_now P (p ∷ h) ≡ bit_now P h
    bits = bit_step P p h ∙ (λ j. unless_reset (l.reset j) P.bit (l.bit j) (bit_now P h))

    by_last : (t : Bool) → (code == 18) ≡ t →
        (if code == 16 then vector_now P (p ∷ h) else if t then last_now (p ∷ h) else if code == 19 then bit_now P (p ∷ h) else 0)
        ≡ (if code == 16 then vector_now P h else if t then last_now h else if code == 19 then bit_now P h else 0)
    by_last true q =
        let lasts : last_now (p ∷ h) ≡ last_now h = last_step p h ∙ (λ j. unless_reset (l.reset j) 0 (l.last q j) (last_now h)) in
        λ j. if code == 16 then (vector_step P p h ∙ (λ j. unless_reset (l.reset j) P.vector (l.vector j) (vector_now P h))) j else lasts j
    by_last false q =
        λ j. if code == 16 then (vector_step P p h ∙ (λ j. unless_reset (l.reset j) P.vector (l.vector j) (vector_now P h))) j
        else if code == 19 then (bit_step P p h ∙ (λ j. unless_reset (l.reset j) P.bit (l.bit j) (bit_now P h))) j else 0

-- an end that wraps no words around
abbrev IsHarmless : Ending → Type 0
IsHarmless (Done c (OwnReceive s n) ds) = ⊥
IsHarmless (Done c (BroadReceive s n) ds) = ⊥
IsHarmless _ = Unit {0}

unwrapped : (wrap s i : ℕ) (x : Ending) → IsHarmless (seen_ending true x) → (let none : Option ℕ = None in wrapped wrap s i x ≡ none)
unwrapped wrap s i Nothing u = refl
unwrapped wrap s i (Badly c) u = refl
unwrapped wrap s i (Illegal c) u = refl
unwrapped wrap s i (Blocked c cell) u = refl
unwrapped wrap s i (Done c (OwnReceive t n) ds) u = absurd u
unwrapped wrap s i (Done c (BroadReceive t n) ds) u = absurd u
unwrapped wrap s i (Done c (OwnTransmit t n) ds) u = refl
unwrapped wrap s i (Done c (OwnMode code) ds) u = refl
unwrapped wrap s i (Done c (BroadMode code) ds) u = refl

-- an event on a bus, or a slot
abbrev IsNoSubsystem : Event → Type 0
IsNoSubsystem (Word b w) = Unit {0}
IsNoSubsystem (Noise b) = Unit {0}
IsNoSubsystem (Gap b) = Unit {0}
IsNoSubsystem Slot = Unit {0}
IsNoSubsystem _ = ⊥

-- what it does, by the shape before it
record Does (P : Description) (cell : Cell) (v : SeenEvent) (t : Shape) : Type 0 where
  pub harmless : IsHarmless (end_by P (ignored_by t.reply v) v t)
  pub reset : reset_by v (effects P (end_by P (ignored_by t.reply v) v t)) t ≡ false
  pub last : is_last_command_code (Some cell) ≡ true → (let none : Option ℕ = None in recorded_by (start_by P (ignored_by t.reply v) v t) ≡ none)

leaves_by : (P : Description) (cell : Cell) (h : List Event) (x : Event) → IsNoSubsystem x → Does P cell (seen_event true P x) (shape true P h) → Leaves P cell (note P (past P h) x)
leaves_by P cell h x u d =
    let v : SeenEvent = seen_event true P x in
    let t : Shape = shape true P h in
    let ignored : ignores (reply_now (past P h)) x ≡ ignored_by t.reply v = ignored_law true P (reply_now (past P h)) x in
    let ends : seen_ending true (ends_now P (past P h) x) ≡ end_by P (ignored_by t.reply v) v t = end_law true P (past P h) x ∙ ap (λ i. end_by P i v t) ignored in
    let start : started x (starts_now P (past P h) x) ≡ start_by P (ignored_by t.reply v) v t = start_law true P (past P h) x ∙ ap (λ i. start_by P i v t) ignored in
    let harmless : IsHarmless (seen_ending true (ends_now P (past P h) x)) = subst IsHarmless (sym ends) d.harmless in
    by_event x u (reset_law true P h x ∙ (ap (λ y. reset_by v (effects P y) t) ends ∙ d.reset)) (λ s i. unwrapped P.wrap s i (ends_now P (past P h) x) harmless) (λ q. ap recorded_by start ∙ d.last q)
  where
    by_event : (x : Event) → IsNoSubsystem x → is_reset (note P (past P h) x) ≡ false → ((s i : ℕ) → (let none : Option ℕ = None in wrapped P.wrap s i (ends_now P (past P h) x) ≡ none)) →
        (is_last_command_code (Some cell) ≡ true → (let none : Option ℕ = None in recorded_by (started x (starts_now P (past P h) x)) ≡ none)) → Leaves P cell (note P (past P h) x)
    by_event (Word b w) u r w' l = record { reset = r; held = w'; vector = refl; bit = refl; last = l }
    by_event (Noise b) u r w' l = record { reset = r; held = w'; vector = refl; bit = refl; last = l }
    by_event (Gap b) u r w' l = record { reset = r; held = w'; vector = refl; bit = refl; last = l }
    by_event Slot u r w' l = record { reset = r; held = w'; vector = refl; bit = refl; last = l }
    by_event (Write q v) u r w' l = absurd u
    by_event (Vector v) u r w' l = absurd u
    by_event (Bit v) u r w' l = absurd u
    by_event (FlagIs f v) u r w' l = absurd u

does_masked : (z : Bool) (P : Description) (cell : Cell) (v : SeenEvent) (t : Shape) → Does P cell v (masked z t) → Does P cell v t
does_masked z P cell (WordComes b s) t d = record { harmless = d.harmless; reset = d.reset; last = d.last }
does_masked z P cell (NoiseComes b) t d = record { harmless = d.harmless; reset = d.reset; last = d.last }
does_masked z P cell (GapComes b) t d = record { harmless = d.harmless; reset = d.reset; last = d.last }
does_masked z P cell SlotComes t d = record { harmless = d.harmless; reset = d.reset; last = d.last }
does_masked z P cell (FlagComes f v) t d = record { harmless = d.harmless; reset = d.reset; last = d.last }
does_masked z P cell OtherComes t d = record { harmless = d.harmless; reset = d.reset; last = d.last }

event_keeps : (z : Bool) (P : Description) (cell : Cell) (h : List Event) (x : Event) (t : Shape) → IsNoSubsystem x → shown z P h ≡ t → Does P cell (seen_event true P x) t → SameWords P cell (past P (x ∷ h)) (past P h)
event_keeps z P cell h x t u s d =
    let v : SeenEvent = seen_event true P x in
    same_words P cell (note P (past P h) x) (past P h) (leaves_by P cell h x u (does_masked z P cell v (shape true P h) (subst (Does P cell v) (sym s) d)))

-- a word from another terminal, and noise, while it rests
nothing_either : (i : Bool) → unless_ignored i Nothing ≡ Nothing
nothing_either true = refl
nothing_either false = refl

word_does : (P : Description) (cell : Cell) (b : Bus) (s : Seen) (r : Option Replying) → s.command ≡ None → Does P cell (WordComes b s) (resting r)
word_does P cell b s r e =
    let n : unless_ignored (is_on b (reply_bus r)) Nothing ≡ Nothing = nothing_either (is_on b (reply_bus r)) in
    record {
      harmless = subst IsHarmless (sym n) tt;
      reset = ap (λ y. reset_by (WordComes b s) (effects P y) (resting r)) n;
      last = λ q. ap (λ k. recorded_by (start_by P (is_on b (reply_bus r)) (WordComes b (record s { command = k })) (resting r))) e;
    }

noise_does : (P : Description) (cell : Cell) (b : Bus) (r : Option Replying) → Does P cell (NoiseComes b) (resting r)
noise_does P cell b r =
    let n : unless_ignored (is_on b (reply_bus r)) Nothing ≡ Nothing = nothing_either (is_on b (reply_bus r)) in
    record {
      harmless = subst IsHarmless (sym n) tt;
      reset = ap (λ y. reset_by (NoiseComes b) (effects P y) (resting r)) n;
      last = λ q. refl;
    }

pub others_keep : (z : Bool) (P : Description) (cell : Cell) (r : Option Replying) (es h : List Event) → IsOthers P es → shown z P h ≡ resting r → SameWords P cell (past P (history_after es h)) (past P h)
others_keep z P cell r [] h o s i = refl
others_keep z P cell r (Word b w ∷ es) h o s i =
    others_keep z P cell r es (Word b w ∷ h) o.1 (shown_next z P h (Word b w) (resting r) (resting r) (none_can z P b (seen_word true P (Some w)) o.0) s (word_rests P b (seen_word true P (Some w)) r o.0) refl) i
    ∙ event_keeps z P cell h (Word b w) (resting r) tt s (word_does P cell b (seen_word true P (Some w)) r o.0) i
others_keep z P cell r (Noise b ∷ es) h o s i =
    others_keep z P cell r es (Noise b ∷ h) o (shown_next z P h (Noise b) (resting r) (resting r) tt s (noise_rests P b r) refl) i
    ∙ event_keeps z P cell h (Noise b) (resting r) tt s (noise_does P cell b r) i
others_keep z P cell r (Gap b ∷ es) h o s i = absurd o
others_keep z P cell r (Write q v ∷ es) h o s i = absurd o
others_keep z P cell r (Vector v ∷ es) h o s i = absurd o
others_keep z P cell r (Bit v ∷ es) h o s i = absurd o
others_keep z P cell r (FlagIs f v ∷ es) h o s i = absurd o
others_keep z P cell r (Slot ∷ es) h o s i = absurd o

-- a cell with data words in its reply
abbrev pub Replies : Cell → Type 0
Replies (OwnTransmit s n) = Unit {0}
Replies (OwnMode code) = (code == 8) ≡ false
Replies _ = ⊥

pub replies_law : (cell : Cell) (n : ℕ) → words_after_status (Some cell) ≡ suc n → Replies cell
replies_law (OwnReceive s m) n e = cc
replies_law (OwnTransmit s m) n e = tt
replies_law (BroadReceive s m) n e = cc
replies_law (BroadMode code) n e = cc
replies_law (OwnMode code) n e = by_reset (code == 8) refl
  where
    by_reset : (t : Bool) → (code == 8) ≡ t → t ≡ false
    by_reset true q = let at : code ≡ 8 = eqb-true code 8 q in let no : 0 ≡ suc n = sym (ap (λ k. words_after_status (Some (OwnMode k))) at) ∙ e in cc
    by_reset false q = refl

-- the reply of such a cell
abbrev pub RepliesAs : Cell → Option Replying → Type 0
RepliesAs cell None = Unit {0}
RepliesAs cell (Some r) = r.cell ≡ Some cell

no_reset_next : (cell : Cell) (number : ℕ) → Replies cell → is_status_of_reset number (Some cell) ≡ false
no_reset_next (OwnTransmit s n) number e = refl
no_reset_next (OwnMode code) number e = ap (λ t. (number == 0) && t) e ∙ and_nothing (number == 0)
  where
    and_nothing : (t : Bool) → t && false ≡ false
    and_nothing true = refl
    and_nothing false = refl
no_reset_next (OwnReceive s n) number e = absurd e
no_reset_next (BroadReceive s n) number e = absurd e
no_reset_next (BroadMode code) number e = absurd e

slot_does : (P : Description) (cell : Cell) (r : Option Replying) → Replies cell → RepliesAs cell r → Does P cell SlotComes (resting r)
slot_does P cell None e a = record { harmless = tt; reset = refl; last = λ q. refl }
slot_does P cell (Some r) e a = record { harmless = tt; reset = ap (is_status_of_reset r.number) a ∙ no_reset_next cell r.number e; last = λ q. refl }

pub slot_keeps : (z : Bool) (P : Description) (cell : Cell) (r : Option Replying) (h : List Event) → Replies cell → RepliesAs cell r → shown z P h ≡ resting r → SameWords P cell (past P (Slot ∷ h)) (past P h)
slot_keeps z P cell r h e a s = event_keeps z P cell h Slot (resting r) tt s (slot_does P cell r e a)

-- its command, data words, and gap
command_does : (P : Description) (cell : Cell) (b : Bus) (c : ℕ) (s : Seen) → cell_of c ≡ Some cell → s.command ≡ Some c → Does P cell (WordComes b s) (resting None)
command_does P cell b c s has e = record {
  harmless = tt;
  reset = refl;
  last = λ q. (ap (λ k. recorded_by (start_by P false (WordComes b (record s { command = k })) (resting None))) e
      ∙ (λ j. if (ap is_last_command_code has ∙ q) j then None else Some c));
}

datum_does : (P : Description) (cell : Cell) (b : Bus) (c : ℕ) (xs : List Seen) (d : ℕ) → Does P cell (WordComes b (datum d)) (collecting b c xs)
datum_does P cell b c xs d =
    let n = no_end (datum d) (same_bus b b) c xs in
    record {
      harmless = subst IsHarmless (sym n) tt;
      reset = ap (λ y. reset_by (WordComes b (datum d)) (effects P y) (collecting b c xs)) n;
      last = λ q. refl;
    }

gap_does : (P : Description) (cell : Cell) (b : Bus) (c : ℕ) (xs : List Seen) (ds : List ℕ) → Replies cell → gap_ending P false (Collects c xs) ≡ Done c cell ds → Does P cell (GapComes b) (collecting b c xs)
gap_does P cell b c xs ds e q =
    let n : gap_ending P false (if same_bus b b then Collects c xs else Idle) ≡ Done c cell ds = ap (λ t. gap_ending P false (if t then Collects c xs else Idle)) (same_self b) ∙ q in
    record {
      harmless = subst IsHarmless (sym n) (harmless cell e);
      reset = ap (λ y. reset_by (GapComes b) (effects P y) (collecting b c xs)) n ∙ no_reset cell e;
      last = λ q. refl;
    }
  where
    harmless : (cell : Cell) → Replies cell → IsHarmless (Done c cell ds)
    harmless (OwnTransmit s n) e = tt
    harmless (OwnMode code) e = tt
    harmless (OwnReceive s n) e = absurd e
    harmless (BroadReceive s n) e = absurd e
    harmless (BroadMode code) e = absurd e

    no_reset : (cell : Cell) → Replies cell → reset_by (GapComes b) (effects P (Done c cell ds)) (collecting b c xs) ≡ false
    no_reset (OwnTransmit s n) e = refl
    no_reset (OwnMode code) e = λ j. false || ((e j && false) || false)
    no_reset (OwnReceive s n) e = absurd e
    no_reset (BroadReceive s n) e = absurd e
    no_reset (BroadMode code) e = absurd e

data_keeps : (z : Bool) (P : Description) (cell : Cell) (b : Bus) (c : ℕ) (vs : List ℕ) (xs : List Seen) (h : List Event) → shown z P h ≡ collecting b c xs → SameWords P cell (past P (history_after (data_on b vs) h)) (past P h)
data_keeps z P cell b c [] xs h s i = refl
data_keeps z P cell b c (v ∷ vs) xs h s i =
    let w : Event = Word b (valid_word Dat v) in
    data_keeps z P cell b c vs (datum v ∷ xs) (w ∷ h) (datum_collected z P b c v xs h s) i
    ∙ event_keeps z P cell h w (collecting b c xs) tt s (subst (λ u. Does P cell (WordComes b u) (collecting b c xs)) (sym (seen_datum P v)) (datum_does P cell b c xs v)) i

pub front_keeps : (z : Bool) (P : Description) (b : Bus) (c : ℕ) (cell : Cell) (vs : List ℕ) (h : List Event) → IsFormed z c cell vs → Replies cell → is_meant P c ≡ true → P.legal cell ≡ true → shown z P h ≡ resting None →
    SameWords P cell (past P (Gap b ∷ history_after (data_on b vs) (Word b (valid_word Com c) ∷ h))) (past P h)
front_keeps z P b c cell vs h f e m l s i =
    let w : Event = Word b (valid_word Com c) in
    let u : Seen = seen_word true P (Some (valid_word Com c)) in
    event_keeps z P cell (history_after (data_on b vs) (w ∷ h)) (Gap b) (collecting b c (data_seen vs [])) tt (meant_collects z P b c vs h (asks_none z c cell vs f) m s)
    (gap_does P cell b c (data_seen vs []) vs e (done_by z P c cell vs f l)) i
    ∙ (data_keeps z P cell b c vs [] (w ∷ h) (command_collects z P b c h (asks_none z c cell vs f) m s) i ∙ event_keeps z P cell h w (resting None) tt s (command_does P cell b c u f.has (meant_command P c m)) i)
