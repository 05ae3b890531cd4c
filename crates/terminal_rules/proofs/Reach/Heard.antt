-- The message in progress is for the terminal, and what is done is a legal cell of a command for it.
use Rattle.std.proofs.Common.{◌≡◌, ℕ, ◌≤◌, Bool, true, false, not, ◌&&◌, ◌||◌, ◌==◌, if◌then◌else◌, Option, Some, None, List, [], ◌∷◌, refl, ap, sym, ◌∙◌, arith}
use Rattle.std.proofs.lemmas.Bool.{and_parts}
use Rattle.std.proofs.lemmas.Bool.Decides.{nat_tests}
use Rattle.bus_word.specs.declared.word.Bus.{Bus}
use Rattle.bus_word.specs.declared.word.Raw.{Raw}
use Rattle.bus_word.specs.declared.mode.ModeRow.{ModeRow}
use Rattle.bus_word.specs.declared.cell.Cell.{Cell}
use Rattle.bus_word.specs.Word.{is_command}
use Rattle.bus_word.specs.Command.{address_of, transmits, code_of, is_mode, is_broadcast}
use Rattle.bus_word.specs.Mode.{mode_row}
use Rattle.bus_word.specs.Cell.{data_cell, same_bool, mode_cell_by, cell_of, is_allowed}
use Rattle.bus_legal.specs.Description.{Description}
use Rattle.bus_legal.specs.Reach.{is_heard}
use Rattle.terminal_rules.specs.declared.event.Event.{Event}
use Rattle.terminal_rules.specs.declared.event.Event.TheVariants.{Word, Noise, Gap, Write, Vector, Bit, Flag as FlagIs, Slot}
use Rattle.terminal_rules.specs.declared.event.Flag.TheVariants.{Busy}
use Rattle.terminal_rules.specs.LookBack.{latest}
use Rattle.terminal_rules.specs.History.{Noted, Ending, Nothing, Badly, Illegal, Blocked, Done, of_word}
use Rattle.terminal_rules.specs.Open.{Open, Idle, Collects, Waits, Resumes, open_now, transfer, status_at}
use Rattle.terminal_rules.specs.Starts.{is_for_terminal, heard_now, is_free, is_fresh_broadcast, starts_message, starts_now, is_meant}
use Rattle.terminal_rules.specs.Flags.{flag_now}
use Rattle.terminal_rules.specs.Ends.{verdict, complete, is_blocked_by_busy, ends_with, at_gap, at_entry, unless_ignored, ends_now}
use Rattle.terminal_rules.specs.Past.{past}
use Rattle.terminal_rules.specs.OpenLaws.{start_of, command_open}
use Rattle.terminal_rules.proofs.CellLaw.{none_or_allowed, cell_of-allowed}
use Rattle.terminal_rules.proofs.LatestLaw.{latest_start_law}
use Rattle.terminal_rules.specs.Steps.{replies_on}

-- the cell, if there is one, is one of commands that are meant for the terminal
abbrev IsHeard : Bool → Option Cell → Type 0
IsHeard broadcast None = Unit {0}
IsHeard broadcast (Some cell) = is_heard broadcast cell ≡ true

either_heard : (broadcast b : Bool) (x y : Option Cell) → (b ≡ true → IsHeard broadcast x) → (b ≡ false → IsHeard broadcast y) → IsHeard broadcast (if b then x else y)
either_heard broadcast true x y hx hy = hx refl
either_heard broadcast false x y hx hy = hy refl

data_heard : (broadcast : Bool) (c : ℕ) → (is_broadcast c ≡ true → broadcast ≡ true) → IsHeard broadcast (data_cell c)
data_heard broadcast c hears =
    either_heard broadcast (transmits c) _ _
    (λ _. either_heard broadcast (is_broadcast c) _ _ (λ _. tt) (λ _. refl))
    (λ _. either_heard broadcast (is_broadcast c) _ _ hears (λ _. refl))

mode_heard : (broadcast : Bool) (c : ℕ) (o : Option ModeRow) → (is_broadcast c ≡ true → broadcast ≡ true) → IsHeard broadcast (mode_cell_by c o)
mode_heard broadcast c None hears = tt
mode_heard broadcast c (Some row) hears =
    either_heard broadcast (same_bool (transmits c) row.transmit) _ _
    (λ _. either_heard broadcast (is_broadcast c) _ _
    (λ by_broadcast. either_heard broadcast row.broadcast _ _ (λ _. hears by_broadcast) (λ _. tt))
    (λ _. refl))
    (λ _. tt)

-- the cell, if there is one, can be asked for: a command for the terminal has it
abbrev pub CanBeAsked : Description → Option Cell → Type 0
CanBeAsked P None = Unit {0}
CanBeAsked P (Some cell) = (is_heard P.broadcast cell ≡ true) × (is_allowed cell ≡ true)

asked : (P : Description) (o : Option Cell) → IsHeard P.broadcast o → none_or_allowed o ≡ true → CanBeAsked P o
asked P None heard allowed = tt
asked P (Some cell) heard allowed = (heard, allowed)

hears_broadcast : (a own : ℕ) (own_is b : Bool) → own ≤ 30 → (a == own) ≡ own_is → own_is || ((a == 31) && b) ≡ true → a == 31 ≡ true → b ≡ true
hears_broadcast a own true b low e m is = grind (arith, nat_tests)
hears_broadcast a own false true b e m is = refl
hears_broadcast a own false false b e m is = grind (arith, nat_tests)

pub meant_cell : (P : Description) (c : ℕ) → P.address ≤ 30 → is_meant P c ≡ true → CanBeAsked P (cell_of c)
meant_cell P c low meant =
    let hears : is_broadcast c ≡ true → P.broadcast ≡ true = hears_broadcast (address_of c) P.address (address_of c == P.address) P.broadcast low refl meant in
    asked P (cell_of c)
    (either_heard P.broadcast (is_mode c) _ _ (λ _. mode_heard P.broadcast c (mode_row (code_of c)) hears) (λ _. data_heard P.broadcast c hears))
    (cell_of-allowed c)

-- only a word for the terminal starts a message
started_meant : (P : Description) (w : Raw) (heard free fresh : Bool) → starts_message P w heard free fresh ≡ true → is_meant P w.bits ≡ true
started_meant P w heard free fresh e = (and_parts (is_command w) _ (and_parts (is_for_terminal P w) _ e).0).1

start_meant : (P : Description) (h : List Event) (b : Bus) (c : ℕ) → latest start_of (past P h) ≡ Some (b, c) → is_meant P c ≡ true
start_meant P [] b c i = cc
start_meant P (e ∷ h) b c i = by_start e (starts_now P (past P h) e) refl i (start_meant P h b c)
  where
    bits : Option (Bus × ℕ) → ℕ
    bits None = 0
    bits (Some p) = p.1

    by_start : (e : Event) (s : Bool) → starts_now P (past P h) e ≡ s →
        (elim (if s then of_word {X = Bus × ℕ} (λ b w. (b, w.bits)) e else None) as (λ m. Option (Bus × ℕ)) [ None ↦ latest start_of (past P h) | Some y ↦ Some y ]) ≡ Some (b, c) →
        (latest start_of (past P h) ≡ Some (b, c) → is_meant P c ≡ true) → is_meant P c ≡ true
    by_start e false s i before = before i
    by_start (Word d w) true s i before =
        let at : w.bits ≡ c = ap bits i in
        ap (is_meant P) (sym at) ∙ started_meant P w (heard_now P (past P h) d) (is_free (open_now P (past P h) d)) (is_fresh_broadcast (open_now P (past P h) d)) (and_parts (not (replies_on (past P h) d)) _ s).1
    by_start _ true s i before = before i

-- the command of a message in progress is meant for the terminal
abbrev pub IsMeant : Description → Open → Type 0
IsMeant P o = (c : ℕ) → command_open o ≡ Some c → is_meant P c ≡ true

pub open_meant : (P : Description) (h : List Event) (b : Bus) → IsMeant P (open_now P (past P h) b)
open_meant P h b c e = start_meant P h b c (latest_start_law P h b c e)

-- a cell that can be done: a command for the terminal has it, and it is legal
pub record CanBeDone (P : Description) (cell : Cell) : Type 0 where
  pub heard : is_heard P.broadcast cell ≡ true
  pub allowed : is_allowed cell ≡ true
  pub legal : P.legal cell ≡ true

abbrev pub DoesWhatItCan : Description → Ending → Type 0
DoesWhatItCan P (Done c cell ds) = CanBeDone P cell
DoesWhatItCan P _ = Unit {0}

verdict_can : (P : Description) (busy : Bool) (c : ℕ) (ds : List ℕ) (o : Option Cell) → CanBeAsked P o → DoesWhatItCan P (verdict P.legal busy c ds o)
verdict_can P busy c ds None a = tt
verdict_can P busy c ds (Some cell) (heard, allowed) = by_legal (P.legal cell) (busy && is_blocked_by_busy cell) refl
  where
    by_legal : (l b : Bool) → P.legal cell ≡ l → DoesWhatItCan P (if l then (if b then Blocked c cell else Done c cell ds) else Illegal c)
    by_legal true true e = tt
    by_legal true false e = record { heard = heard; allowed = allowed; legal = e }
    by_legal false b e = tt

ends_with_can : (P : Description) → P.address ≤ 30 → (busy : Bool) (c : ℕ) (m : Option (List ℕ)) (t : Option (ℕ × ℕ)) → is_meant P c ≡ true → DoesWhatItCan P (ends_with P busy c m t)
ends_with_can P low busy c None None m = tt
ends_with_can P low busy c None (Some t) m = tt
ends_with_can P low busy c (Some ds) t m = verdict_can P busy c ds (cell_of c) (meant_cell P c low m)

pub gap_can : (P : Description) → P.address ≤ 30 → (busy : Bool) (o : Open) → IsMeant P o → DoesWhatItCan P (at_gap P busy o)
gap_can P low busy Idle m = tt
gap_can P low busy (Collects c after) m = ends_with_can P low busy c (complete c after) (transfer P (Some (c, after))) (m c refl)
gap_can P low busy (Waits c a) m = tt
gap_can P low busy (Resumes c after) m = ends_with_can P low busy c (complete c after) None (m c refl)

entry_can : (P : Description) (w : Option Raw) (o : Open) → DoesWhatItCan P (at_entry w o)
entry_can P w Idle = tt
entry_can P w (Collects c after) = tt
entry_can P w (Waits c a) = elim (status_at a w) as (λ s. DoesWhatItCan P (if s then Nothing else Badly c)) [ true ↦ tt | false ↦ tt ]
entry_can P w (Resumes c after) = tt

unless_can : (P : Description) (i : Bool) (x : Ending) → DoesWhatItCan P x → DoesWhatItCan P (unless_ignored i x)
unless_can P true x can = tt
unless_can P false x can = can

pub event_can : (P : Description) → P.address ≤ 30 → (h : List Noted) (e : Event) → ((b : Bus) → IsMeant P (open_now P h b)) → DoesWhatItCan P (ends_now P h e)
event_can P low h (Word b w) m = unless_can P (replies_on h b) (at_entry (Some w) (open_now P h b)) (entry_can P (Some w) (open_now P h b))
event_can P low h (Noise b) m = unless_can P (replies_on h b) (at_entry None (open_now P h b)) (entry_can P None (open_now P h b))
event_can P low h (Gap b) m = unless_can P (replies_on h b) (at_gap P (flag_now h Busy) (open_now P h b)) (gap_can P low (flag_now h Busy) (open_now P h b) (m b))
event_can P low h _ m = tt

abbrev pub AllDoWhatTheyCan : Description → List Noted → Type 0
AllDoWhatTheyCan P [] = Unit {0}
AllDoWhatTheyCan P (p ∷ h) = DoesWhatItCan P p.ends × AllDoWhatTheyCan P h

-- what was done in a history, could be done
pub past_can : (P : Description) → P.address ≤ 30 → (h : List Event) → AllDoWhatTheyCan P (past P h)
past_can P low [] = tt
past_can P low (e ∷ h) = (event_can P low (past P h) e (open_meant P h), past_can P low h)
