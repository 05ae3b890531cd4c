-- The three cases in which an event is a reset.
use Rattle.std.proofs.Common.{◌≡◌, ℕ, Bool, true, false, not, ◌&&◌, ◌||◌, if◌then◌else◌, Option, Some, None, List, refl, ap, ◌∙◌}
use Rattle.bus_word.specs.declared.mode.ModeRow.{ModeRow}
use Rattle.bus_word.specs.declared.cell.Cell.{Cell}
use Rattle.bus_word.specs.declared.cell.Cell.TheVariants.{OwnReceive, OwnTransmit, BroadReceive, OwnMode, BroadMode}
use Rattle.bus_word.specs.declared.word.Bus.{Bus}
use Rattle.bus_word.specs.declared.word.Raw.{Raw}
use Rattle.bus_word.specs.Command.{transmits, code_of, is_mode, is_broadcast}
use Rattle.bus_word.specs.Mode.{mode_row}
use Rattle.bus_word.specs.Cell.{data_cell, same_bool, mode_cell_by, cell_of}
use Rattle.bus_legal.specs.Description.{Description}
use Rattle.terminal_rules.specs.declared.event.Event.TheVariants.{Word, Noise, Gap, Write, Vector, Bit, Flag as FlagIs, Slot}
use Rattle.terminal_rules.specs.declared.event.Flag.TheVariants.{Busy}
use Rattle.terminal_rules.specs.History.{Replying, NoTurn, Ending, Nothing, Badly, Illegal, Blocked, Done}
use Rattle.terminal_rules.specs.Open.{Open, Idle, Collects, Waits, Resumes, open_now, transfer, status_at}
use Rattle.terminal_rules.specs.Reply.{reply_now}
use Rattle.terminal_rules.specs.Flags.{flag_now}
use Rattle.terminal_rules.specs.Ends.{complete, is_blocked_by_busy, verdict, ends_with, at_gap, at_entry, unless_ignored}
use Rattle.terminal_rules.specs.SinceReset.{begins, does_own_reset, resets_by_broadcast, resets_in_slot, resets, off_now}
use Rattle.terminal_rules.specs.Turn.{is_answered, done_cell, turn_of_gap, turn_of_slot, unless_ignored_turn}
use Rattle.terminal_rules.specs.Past.{past}
use Rattle.terminal_rules.specs.ResetLaws.{status_of_reset_is_next, ResetLaw}
use Rattle.terminal_rules.specs.Steps.{replies_on}

-- no command by broadcast has the cell of an own mode code
abbrev is_own_code : Option Cell → Bool
is_own_code (Some (OwnMode code)) = true
is_own_code _ = false

mode_broadcast : (code : ℕ) (t b r : Bool) → b ≡ true → is_own_code (if t then (if b then (if r then Some (BroadMode code) else None) else Some (OwnMode code)) else None) ≡ false
mode_broadcast code false b r e = refl
mode_broadcast code true true true e = refl
mode_broadcast code true true false e = refl
mode_broadcast code true false r e = cc

by_row : (c : ℕ) (o : Option ModeRow) → is_broadcast c ≡ true → is_own_code (mode_cell_by c o) ≡ false
by_row c None e = refl
by_row c (Some row) e = mode_broadcast (code_of c) (same_bool (transmits c) row.transmit) (is_broadcast c) row.broadcast e

data_no_code : (t b : Bool) (x y z : Cell) → is_own_code (Some x) ≡ false → is_own_code (Some y) ≡ false → is_own_code (Some z) ≡ false →
    is_own_code (if t then (if b then None else Some x) else (if b then Some y else Some z)) ≡ false
data_no_code true true x y z p q r = refl
data_no_code true false x y z p q r = p
data_no_code false true x y z p q r = q
data_no_code false false x y z p q r = r

data_code : (c : ℕ) → is_own_code (data_cell c) ≡ false
data_code c = data_no_code (transmits c) (is_broadcast c) _ _ _ refl refl refl

no_own_code : (c : ℕ) → is_broadcast c ≡ true → is_own_code (cell_of c) ≡ false
no_own_code c e = by_mode (is_mode c)
  where
    by_mode : (m : Bool) → is_own_code (if m then mode_cell_by c (mode_row (code_of c)) else data_cell c) ≡ false
    by_mode true = by_row c (mode_row (code_of c)) e
    by_mode false = data_code c

-- what is done of an own mode code was no broadcast
abbrev OwnIsNoBroadcast : Ending → Type 0
OwnIsNoBroadcast (Done c (OwnMode code) ds) = is_broadcast c ≡ false
OwnIsNoBroadcast _ = Unit {0}

verdict_own : (legal : Cell → Bool) (busy : Bool) (c : ℕ) (ds : List ℕ) (o : Option Cell) → (is_broadcast c ≡ true → is_own_code o ≡ false) → OwnIsNoBroadcast (verdict legal busy c ds o)
verdict_own legal busy c ds None f = tt
verdict_own legal busy c ds (Some cell) f = by_tests (legal cell) (busy && is_blocked_by_busy cell)
  where
    done : (cell : Cell) → (is_broadcast c ≡ true → is_own_code (Some cell) ≡ false) → OwnIsNoBroadcast (Done c cell ds)
    done (OwnReceive s n) g = tt
    done (OwnTransmit s n) g = tt
    done (BroadReceive s n) g = tt
    done (BroadMode code) g = tt
    done (OwnMode code) g = by_broadcast (is_broadcast c) g
      where
        by_broadcast : (b : Bool) → (b ≡ true → true ≡ false) → b ≡ false
        by_broadcast true g = g refl
        by_broadcast false g = refl

    by_tests : (l b : Bool) → OwnIsNoBroadcast (if l then (if b then Blocked c cell else Done c cell ds) else Illegal c)
    by_tests true true = tt
    by_tests true false = done cell f
    by_tests false b = tt

with_own : (P : Description) (busy : Bool) (c : ℕ) (m : Option (List ℕ)) (t : Option (ℕ × ℕ)) → OwnIsNoBroadcast (ends_with P busy c m t)
with_own P busy c (Some ds) t = verdict_own P.legal busy c ds (cell_of c) (no_own_code c)
with_own P busy c None (Some t) = tt
with_own P busy c None None = tt

gap_own : (P : Description) (busy : Bool) (o : Open) → OwnIsNoBroadcast (at_gap P busy o)
gap_own P busy Idle = tt
gap_own P busy (Collects c after) = with_own P busy c (complete c after) (transfer P (Some (c, after)))
gap_own P busy (Waits c a) = tt
gap_own P busy (Resumes c after) = with_own P busy c (complete c after) None

-- at a gap that isn't ignored no reply to an own reset begins just where the transmitter is shut down
silent_gap : (b : Bus) (off : Bool) (x : Ending) → OwnIsNoBroadcast x →
    (does_own_reset x && not (begins (turn_of_gap b (is_answered off x) (done_cell x)))) ≡ (does_own_reset x && off)
silent_gap b off Nothing own = refl
silent_gap b off (Badly c) own = refl
silent_gap b off (Illegal c) own = refl
silent_gap b off (Blocked c cell) own = refl
silent_gap b off (Done c (OwnReceive s n) ds) own = refl
silent_gap b off (Done c (OwnTransmit s n) ds) own = refl
silent_gap b off (Done c (BroadReceive s n) ds) own = refl
silent_gap b off (Done c (BroadMode code) ds) own = refl
silent_gap b off (Done c (OwnMode code) ds) own =
    ap (λ a. does_own_reset (Done c (OwnMode code) ds) && not (begins (turn_of_gap b (not (a || off)) (Some (OwnMode code))))) own
    ∙ ap (λ t. does_own_reset (Done c (OwnMode code) ds) && t) (by_off off)
  where
    by_off : (off : Bool) → not (begins (turn_of_gap b (not off) (Some (OwnMode code)))) ≡ off
    by_off true = refl
    by_off false = refl

no_slot : (b : Bus) (a : Bool) (cell : Option Cell) → resets_in_slot (turn_of_gap b a cell) ≡ false
no_slot b true cell = refl
no_slot b false cell = refl

gap_case : (b : Bus) (i off : Bool) (x : Ending) → OwnIsNoBroadcast x →
    resets (unless_ignored_turn i (turn_of_gap b (is_answered off (unless_ignored i x)) (done_cell (unless_ignored i x)))) (unless_ignored i x)
    ≡ (resets_by_broadcast (unless_ignored i x) || ((does_own_reset (unless_ignored i x) && off) || false))
gap_case b true off x own = refl
gap_case b false off x own = λ j. resets_by_broadcast x || (silent_gap b off x own j || no_slot b (is_answered off x) (done_cell x) j)

-- a word and noise end nothing well, and no reply begins or goes on with them
abbrev EntryCase : Bool → Ending → Type 0
EntryCase i x = resets (unless_ignored_turn i NoTurn) (unless_ignored i x) ≡ (resets_by_broadcast (unless_ignored i x) || ((does_own_reset (unless_ignored i x) && false) || false))

entry_case : (w : Option Raw) (i : Bool) (o : Open) → EntryCase i (at_entry w o)
entry_case w true o = refl
entry_case w false Idle = refl
entry_case w false (Collects c after) = refl
entry_case w false (Waits c a) = elim (status_at a w) as (λ s. EntryCase false (if s then Nothing else Badly c)) [ true ↦ refl | false ↦ refl ]
entry_case w false (Resumes c after) = refl

pub reset_law : ResetLaw
reset_law P h (Gap b) = gap_case b (replies_on (past P h) b) (off_now (past P h) b) (at_gap P (flag_now (past P h) Busy) (open_now P (past P h) b)) (gap_own P (flag_now (past P h) Busy) (open_now P (past P h) b))
reset_law P h (Word b w) = entry_case (Some w) (replies_on (past P h) b) (open_now P (past P h) b)
reset_law P h (Noise b) = entry_case None (replies_on (past P h) b) (open_now P (past P h) b)
reset_law P h (Write q v) = refl
reset_law P h (Vector v) = refl
reset_law P h (Bit v) = refl
reset_law P h (FlagIs f v) = refl
reset_law P h Slot = by_reply (reply_now (past P h))
  where
    by_reply : (r : Option Replying) → resets (turn_of_slot r) Nothing ≡ status_of_reset_is_next r
    by_reply None = refl
    by_reply (Some r) = refl
