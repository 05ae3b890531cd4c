-- How a message ends, apart from whether the busy flag blocks it: that alone of its end is the subsystem's.
use Rattle.std.proofs.Common.{◌≡◌, ℕ, Bool, true, false, not, ◌&&◌, ◌||◌, ◌==◌, if◌then◌else◌, Option, Some, None, List, refl, ap, sym, ◌∙◌, subst}
use Rattle.std.proofs.lemmas.Bool.{eqb-true}
use Rattle.bus_word.specs.declared.word.Bus.{Bus}
use Rattle.bus_word.specs.declared.word.Raw.{Raw}
use Rattle.bus_word.specs.declared.status.StatusParts.{StatusParts}
use Rattle.bus_word.specs.declared.cell.Cell.{Cell}
use Rattle.bus_word.specs.declared.cell.Cell.TheVariants.{OwnReceive, OwnTransmit, BroadReceive, OwnMode, BroadMode}
use Rattle.bus_word.specs.Command.{is_broadcast}
use Rattle.bus_word.specs.Cell.{cell_of}
use Rattle.bus_legal.specs.Description.{Description}
use Rattle.terminal_rules.specs.declared.event.Event.{Event}
use Rattle.terminal_rules.specs.declared.event.Event.TheVariants.{Word, Noise, Gap, Write, Vector, Bit, Flag as FlagIs, Slot}
use Rattle.terminal_rules.specs.declared.event.Flag.{Flag}
use Rattle.terminal_rules.specs.declared.event.Flag.TheVariants.{Service, Busy, Subsystem, Terminal}
use Rattle.terminal_rules.specs.History.{Noted, Ending, Nothing, Badly, Illegal, Blocked, Done}
use Rattle.terminal_rules.specs.Open.{Open, Idle, Collects, Waits, Resumes, open_now, transfer, status_at}
use Rattle.terminal_rules.specs.Reply.{reply_now, ignores}
use Rattle.terminal_rules.specs.Flags.{flag_now}
use Rattle.terminal_rules.specs.Ends.{is_blocked_by_busy, verdict, complete, ends_with, at_gap, at_entry, unless_ignored, ends_heard, ends_now}
use Rattle.terminal_rules.specs.SinceReset.{resets_by_broadcast, does_own_reset, switched, done_code, inhibited_now}
use Rattle.terminal_rules.specs.Status.{accepts, inhibited_after, reports_kept, spares, kept_by_end, adds_error}
use Rattle.terminal_rules.specs.Turn.{is_answered}

-- an end as if the terminal were busy
abbrev pub if_busy : Ending → Ending
if_busy (Done c cell ds) = if is_blocked_by_busy cell then Blocked c cell else Done c cell ds
if_busy x = x

-- what is so at mode codes 16 and 17 is so at those that busy blocks
at_codes : {X : Type 0} (f g : ℕ → X) → f 16 ≡ g 16 → f 17 ≡ g 17 → (code : ℕ) → (code == 16) || (code == 17) ≡ true → f code ≡ g code
at_codes {X} f g p q code e = by_first (code == 16) refl e
  where
    by_first : (t : Bool) → (code == 16) ≡ t → t || (code == 17) ≡ true → f code ≡ g code
    by_first true x e = let at : code ≡ 16 = eqb-true code 16 x in subst (λ (k : ℕ). f k ≡ g k) (sym at) p
    by_first false x e = let at : code ≡ 17 = eqb-true code 17 e in subst (λ (k : ℕ). f k ≡ g k) (sym at) q

-- what is so of a message that is done, if it is of one that is blocked, doesn't depend on busy
pub alike_if_busy : {X : Type 0} (F : Ending → X) →
    ((c s n : ℕ) (ds : List ℕ) → F (Done c (OwnReceive s n) ds) ≡ F (Blocked c (OwnReceive s n))) →
    ((c s n : ℕ) (ds : List ℕ) → F (Done c (OwnTransmit s n) ds) ≡ F (Blocked c (OwnTransmit s n))) →
    ((c s n : ℕ) (ds : List ℕ) → F (Done c (BroadReceive s n) ds) ≡ F (Blocked c (BroadReceive s n))) →
    ((c : ℕ) (ds : List ℕ) → F (Done c (OwnMode 16) ds) ≡ F (Blocked c (OwnMode 16))) →
    ((c : ℕ) (ds : List ℕ) → F (Done c (OwnMode 17) ds) ≡ F (Blocked c (OwnMode 17))) →
    ((c : ℕ) (ds : List ℕ) → F (Done c (BroadMode 16) ds) ≡ F (Blocked c (BroadMode 16))) →
    ((c : ℕ) (ds : List ℕ) → F (Done c (BroadMode 17) ds) ≡ F (Blocked c (BroadMode 17))) →
    (x : Ending) → F x ≡ F (if_busy x)
alike_if_busy {X} F a b d p q r s Nothing = refl
alike_if_busy {X} F a b d p q r s (Badly c) = refl
alike_if_busy {X} F a b d p q r s (Illegal c) = refl
alike_if_busy {X} F a b d p q r s (Blocked c cell) = refl
alike_if_busy {X} F a b d p q r s (Done c (OwnReceive m n) ds) = a c m n ds
alike_if_busy {X} F a b d p q r s (Done c (OwnTransmit m n) ds) = b c m n ds
alike_if_busy {X} F a b d p q r s (Done c (BroadReceive m n) ds) = d c m n ds
alike_if_busy {X} F a b d p q r s (Done c (OwnMode code) ds) = by_code ((code == 16) || (code == 17)) refl
  where
    by_code : (t : Bool) → ((code == 16) || (code == 17)) ≡ t → F (Done c (OwnMode code) ds) ≡ F (if t then Blocked c (OwnMode code) else Done c (OwnMode code) ds)
    by_code true e = at_codes (λ k. F (Done c (OwnMode k) ds)) (λ k. F (Blocked c (OwnMode k))) (p c ds) (q c ds) code e
    by_code false e = refl
alike_if_busy {X} F a b d p q r s (Done c (BroadMode code) ds) = by_code ((code == 16) || (code == 17)) refl
  where
    by_code : (t : Bool) → ((code == 16) || (code == 17)) ≡ t → F (Done c (BroadMode code) ds) ≡ F (if t then Blocked c (BroadMode code) else Done c (BroadMode code) ds)
    by_code true e = at_codes (λ k. F (Done c (BroadMode k) ds)) (λ k. F (Blocked c (BroadMode k))) (r c ds) (s c ds) code e
    by_code false e = refl

-- what an end does that is seen sooner or later, whatever the flags
pub record Effects : Type 0 where
  pub broadcast_reset : Bool
  pub own_reset : Bool
  pub shuts : Option Bool
  pub inhibits : Option Bool
  pub adds : Bool

abbrev pub effects : Description → Ending → Effects
effects P x = record {
  broadcast_reset = resets_by_broadcast x;
  own_reset = does_own_reset x;
  shuts = switched 4 5 (done_code x);
  inhibits = switched 6 7 (done_code x);
  adds = adds_error P x;
}

pub effects_law : (P : Description) (x : Ending) → effects P x ≡ effects P (if_busy x)
effects_law P x = alike_if_busy (effects P) (λ c s n ds. refl) (λ c s n ds. refl) (λ c s n ds. refl) (λ c ds. refl) (λ c ds. refl) (λ c ds. refl) (λ c ds. refl) x

pub answered_law : (off : Bool) (x : Ending) → is_answered off x ≡ is_answered off (if_busy x)
answered_law off x = alike_if_busy (is_answered off) (λ c s n ds. refl) (λ c s n ds. refl) (λ c s n ds. refl) (λ c ds. refl) (λ c ds. refl) (λ c ds. refl) (λ c ds. refl) x

-- a status with these flags
abbrev pub flagged : Bool → Bool → Bool → Bool → (Flag → Bool) → StatusParts
flagged error broadcast accept inhibited g = record {
  error = error;
  service = g Service;
  broadcast = broadcast;
  busy = g Busy;
  subsystem = g Subsystem;
  accept = accept;
  terminal = g Terminal && not inhibited;
}

-- what an end sets the kept status to, with these flags
abbrev pub kept_of : Description → (Flag → Bool) → Bool → Ending → Option StatusParts
kept_of P g inhibited Nothing = None
kept_of P g inhibited (Badly c) = if spares P c then None else Some (flagged true (is_broadcast c) false inhibited g)
kept_of P g inhibited (Illegal c) = Some (flagged true (is_broadcast c) false inhibited g)
kept_of P g inhibited (Blocked c cell) = Some (flagged false (is_broadcast c) false inhibited g)
kept_of P g inhibited (Done c cell ds) = if reports_kept cell then None else Some (flagged false (is_broadcast c) (accepts P.accept cell) (inhibited_after inhibited cell) g)

kept_of_law : (P : Description) (h : List Noted) (x : Ending) → kept_by_end P h false x ≡ kept_of P (flag_now h) (inhibited_now h) x
kept_of_law P h Nothing = refl
kept_of_law P h (Badly c) = refl
kept_of_law P h (Illegal c) = refl
kept_of_law P h (Blocked c cell) = refl
kept_of_law P h (Done c cell ds) = refl

pub kept_of_busy : (P : Description) (g : Flag → Bool) (inhibited : Bool) (x : Ending) → kept_of P g inhibited x ≡ kept_of P g inhibited (if_busy x)
kept_of_busy P g inhibited x = alike_if_busy (kept_of P g inhibited) (λ c s n ds. refl) (λ c s n ds. refl) (λ c s n ds. refl) (λ c ds. refl) (λ c ds. refl) (λ c ds. refl) (λ c ds. refl) x

pub kept_end_law : (P : Description) (h : List Noted) (x : Ending) → kept_by_end P h false x ≡ kept_of P (flag_now h) (inhibited_now h) (if_busy x)
kept_end_law P h x = kept_of_law P h x ∙ kept_of_busy P (flag_now h) (inhibited_now h) x

-- a busy terminal's end
verdict_busy : (legal : Cell → Bool) (busy : Bool) (c : ℕ) (ds : List ℕ) (o : Option Cell) → if_busy (verdict legal busy c ds o) ≡ verdict legal true c ds o
verdict_busy legal busy c ds None = refl
verdict_busy legal busy c ds (Some cell) = by_legal (legal cell) busy
  where
    by_blocked : (k : Bool) → is_blocked_by_busy cell ≡ k → if_busy (if k then Blocked c cell else Done c cell ds) ≡ (if k then Blocked c cell else Done c cell ds)
    by_blocked true e = refl
    by_blocked false e = ap (λ k. if k then Blocked c cell else Done c cell ds) e

    by_legal : (l busy : Bool) →
        if_busy (if l then (if busy && is_blocked_by_busy cell then Blocked c cell else Done c cell ds) else Illegal c)
        ≡ (if l then (if true && is_blocked_by_busy cell then Blocked c cell else Done c cell ds) else Illegal c)
    by_legal true true = by_blocked (is_blocked_by_busy cell) refl
    by_legal true false = refl
    by_legal false busy = refl

with_busy : (P : Description) (busy : Bool) (c : ℕ) (m : Option (List ℕ)) (t : Option (ℕ × ℕ)) → if_busy (ends_with P busy c m t) ≡ ends_with P true c m t
with_busy P busy c (Some ds) t = verdict_busy P.legal busy c ds (cell_of c)
with_busy P busy c None (Some t) = refl
with_busy P busy c None None = refl

gap_busy : (P : Description) (busy : Bool) (o : Open) → if_busy (at_gap P busy o) ≡ at_gap P true o
gap_busy P busy Idle = refl
gap_busy P busy (Collects c after) = with_busy P busy c (complete c after) (transfer P (Some (c, after)))
gap_busy P busy (Waits c a) = refl
gap_busy P busy (Resumes c after) = with_busy P busy c (complete c after) None

entry_busy : (w : Option Raw) (o : Open) → if_busy (at_entry w o) ≡ at_entry w o
entry_busy w Idle = refl
entry_busy w (Collects c after) = refl
entry_busy w (Waits c a) = elim (status_at a w) as (λ s. if_busy (if s then Nothing else Badly c) ≡ (if s then Nothing else Badly c)) [ true ↦ refl | false ↦ refl ]
entry_busy w (Resumes c after) = refl

unless_busy : (i : Bool) (x y : Ending) → if_busy x ≡ y → if_busy (unless_ignored i x) ≡ unless_ignored i y
unless_busy true x y e = refl
unless_busy false x y e = e

-- how an event that is heard ends a message, from the messages in progress alone, as if the terminal were busy
abbrev pub busy_end : Description → (Bus → Open) → Event → Ending
busy_end P o (Gap b) = at_gap P true (o b)
busy_end P o (Word b w) = at_entry (Some w) (o b)
busy_end P o (Noise b) = at_entry None (o b)
busy_end P o _ = Nothing

pub ends_law : (P : Description) (h : List Noted) (e : Event) → if_busy (ends_now P h e) ≡ unless_ignored (ignores (reply_now h) e) (busy_end P (open_now P h) e)
ends_law P h (Gap b) = unless_busy (ignores (reply_now h) (Gap b)) (ends_heard P h (Gap b)) _ (gap_busy P (flag_now h Busy) (open_now P h b))
ends_law P h (Word b w) = unless_busy (ignores (reply_now h) (Word b w)) (ends_heard P h (Word b w)) _ (entry_busy (Some w) (open_now P h b))
ends_law P h (Noise b) = unless_busy (ignores (reply_now h) (Noise b)) (ends_heard P h (Noise b)) _ (entry_busy None (open_now P h b))
ends_law P h (Write q v) = refl
ends_law P h (Vector v) = refl
ends_law P h (Bit v) = refl
ends_law P h (FlagIs f v) = refl
ends_law P h Slot = refl
