-- The reply in progress after one event more.
use Rattle.std.proofs.Common.{◌≡◌, ℕ, suc, Bool, true, false, not, ◌||◌, nat_le, if◌then◌else◌, Option, Some, None, List, ◌∷◌, refl, ap, arith}
use Rattle.std.proofs.lemmas.Bool.Decides.{nat_tests}
use Rattle.bus_word.specs.declared.word.Bus.{Bus}
use Rattle.bus_word.specs.declared.word.Bus.TheVariants.{A, B}
use Rattle.bus_word.specs.declared.word.Raw.{Raw}
use Rattle.bus_word.specs.declared.cell.Cell.{Cell}
use Rattle.terminal_rules.specs.declared.event.Event.TheVariants.{Word, Noise, Gap, Slot}
use Rattle.terminal_rules.specs.Buses.{same_bus}
use Rattle.terminal_rules.specs.LookBack.{latest, since, some}
use Rattle.terminal_rules.specs.History.{Noted, noted_as, Replying, Turn, NoTurn, Ending}
use Rattle.terminal_rules.specs.Open.{is_on}
use Rattle.terminal_rules.specs.Reply.{words_after_status, begun, begins_reply, reply_after, reply_of, reply_now, reply_bus, supersedes, slots_in}
use Rattle.terminal_rules.specs.Turn.{turn_of_gap, turn_of_slot}
use Rattle.terminal_rules.specs.Steps.{replies_on, sent_one, begun_if, dropped_if}

-- a start on the other bus drops it, and there is none on its own
drops : (c b : Bus) (cell : Option Cell) (superseded : Bool) (m : ℕ) → is_on c (reply_bus (reply_after b cell superseded m)) ≡ false →
    (let none : Option Replying = None in reply_after b cell (not (same_bus b c) || superseded) m ≡ none)
drops c b cell true m e = dropped (same_bus b c)
  where
    dropped : (x : Bool) → (let none : Option Replying = None in reply_after b cell (not x || true) m ≡ none)
    dropped true = refl
    dropped false = refl
drops A A cell false m e = over (nat_le m (words_after_status cell)) e
  where
    over : (t : Bool) → is_on A (reply_bus (if t then Some (record { bus = A; cell = cell; number = m }) else None)) ≡ false →
        (let none : Option Replying = None in (if t then Some (record { bus = A; cell = cell; number = m }) else None) ≡ none)
    over true e = cc
    over false e = refl
drops A B cell false m e = refl
drops B A cell false m e = refl
drops B B cell false m e = over (nat_le m (words_after_status cell)) e
  where
    over : (t : Bool) → is_on B (reply_bus (if t then Some (record { bus = B; cell = cell; number = m }) else None)) ≡ false →
        (let none : Option Replying = None in (if t then Some (record { bus = B; cell = cell; number = m }) else None) ≡ none)
    over true e = cc
    over false e = refl

word_of : (c : Bus) (w : Raw) (s : Bool) (x : Ending) (l : List Noted) (o : Option (Bus × Option Cell)) → is_on c (reply_bus (reply_of l o)) ≡ false →
    reply_of (noted_as (Word c w) NoTurn s x ∷ l) o ≡ dropped_if s (reply_of l o)
word_of c w false x l None e = refl
word_of c w true x l None e = refl
word_of c w false x l (Some r) e = refl
word_of c w true x l (Some r) e = drops c r.0 r.1 (some (supersedes r.0) l) (slots_in l) e

-- a word that isn't ignored: a start drops the reply
pub reply_word_law : (h : List Noted) (c : Bus) (w : Raw) (s : Bool) (x : Ending) → replies_on h c ≡ false → reply_now (noted_as (Word c w) NoTurn s x ∷ h) ≡ dropped_if s (reply_now h)
reply_word_law h c w s x e = word_of c w s x (since begins_reply h) (latest (λ p. begun p.turn) h) e

pub reply_noise_law : (h : List Noted) (c : Bus) (x : Ending) → reply_now (noted_as (Noise c) NoTurn false x ∷ h) ≡ reply_now h
reply_noise_law h c x =
    elim (latest (λ p. begun p.turn) h) as (λ o. reply_of (noted_as (Noise c) NoTurn false x ∷ since begins_reply h) o ≡ reply_of (since begins_reply h) o) [ None ↦ refl | Some r ↦ refl ]

pub no_words : (n : ℕ) → nat_le 0 n ≡ true
no_words n = grind (arith, nat_tests)

-- a gap that isn't ignored, whether a reply begins
pub reply_gap_law : (h : List Noted) (c : Bus) (a : Bool) (cell : Option Cell) (x : Ending) → reply_now (noted_as (Gap c) (turn_of_gap c a cell) false x ∷ h) ≡ begun_if a c cell (reply_now h)
reply_gap_law h c true cell x = ap (λ t. if t then Some (record { bus = c; cell = cell; number = 0 }) else None) (no_words (words_after_status cell))
reply_gap_law h c false cell x =
    elim (latest (λ p. begun p.turn) h) as (λ o. reply_of (noted_as (Gap c) NoTurn false x ∷ since begins_reply h) o ≡ reply_of (since begins_reply h) o) [ None ↦ refl | Some r ↦ refl ]

over_later : (m n : ℕ) → nat_le m n ≡ false → nat_le (suc m) n ≡ false
over_later m n e = grind (arith, nat_tests)

pub next_of : (b : Bus) (cell : Option Cell) (superseded : Bool) (m : ℕ) → reply_after b cell superseded (suc m) ≡ sent_one (reply_after b cell superseded m)
next_of b cell true m = refl
next_of b cell false m = by_test (nat_le m (words_after_status cell)) refl
  where
    by_test : (t : Bool) → nat_le m (words_after_status cell) ≡ t →
        reply_after b cell false (suc m) ≡ sent_one (if t then Some (record { bus = b; cell = cell; number = m }) else None)
    by_test true e = refl
    by_test false e = ap (λ t. if t then Some (record { bus = b; cell = cell; number = suc m }) else None) (over_later m (words_after_status cell) e)

slot_of : (t : Turn) (x : Ending) (l : List Noted) (o : Option (Bus × Option Cell)) → reply_of (noted_as Slot t false x ∷ l) o ≡ sent_one (reply_of l o)
slot_of t x l None = refl
slot_of t x l (Some r) = next_of r.0 r.1 (some (supersedes r.0) l) (slots_in l)

-- a slot sends one word
pub reply_slot_law : (h : List Noted) (r : Option Replying) (x : Ending) → reply_now (noted_as Slot (turn_of_slot r) false x ∷ h) ≡ sent_one (reply_now h)
reply_slot_law h None x = slot_of NoTurn x (since begins_reply h) (latest (λ p. begun p.turn) h)
reply_slot_law h (Some r) x = slot_of (turn_of_slot (Some r)) x (since begins_reply h) (latest (λ p. begun p.turn) h)
