-- A description that agrees where it can be asked for notes the same of every history.
use Rattle.std.proofs.Common.{◌≡◌, ℕ, ◌≤◌, Bool, true, false, ◌&&◌, if◌then◌else◌, Option, Some, None, List, [], ◌∷◌, refl, ap, ◌∙◌}
use Rattle.bus_word.specs.declared.word.Bus.{Bus}
use Rattle.bus_word.specs.declared.cell.Cell.{Cell}
use Rattle.bus_word.specs.Cell.{cell_of}
use Rattle.bus_legal.specs.Description.{Description}
use Rattle.terminal_rules.specs.declared.event.Event.{Event}
use Rattle.terminal_rules.specs.declared.event.Event.TheVariants.{Word, Noise, Gap, Write, Vector, Bit, Flag as FlagIs, Slot}
use Rattle.terminal_rules.specs.declared.event.Flag.TheVariants.{Busy}
use Rattle.terminal_rules.specs.History.{Noted, Illegal, Blocked, Done}
use Rattle.terminal_rules.specs.Turn.{noted}
use Rattle.terminal_rules.specs.Open.{Open, Idle, Collects, Waits, Resumes, open_now, transfer}
use Rattle.terminal_rules.specs.Flags.{flag_now}
use Rattle.terminal_rules.specs.Ends.{verdict, is_blocked_by_busy, complete, ends_with, at_gap, unless_ignored}
use Rattle.terminal_rules.specs.Past.{note, past}
use Rattle.terminal_rules.specs.Starts.{is_meant}
use Rattle.terminal_rules.proofs.Reach.Heard.{CanBeAsked, meant_cell, IsMeant, open_meant}
use Rattle.terminal_rules.proofs.Reach.Agrees.{Agrees, addressed}
use Rattle.terminal_rules.specs.Steps.{replies_on}

verdict_alike : (P R : Description) → Agrees P R → (busy : Bool) (c : ℕ) (ds : List ℕ) (o : Option Cell) → CanBeAsked P o → verdict R.legal busy c ds o ≡ verdict P.legal busy c ds o
verdict_alike P R a busy c ds None q = refl
verdict_alike P R a busy c ds (Some cell) (heard, allowed) =
    ap (λ l. if l then (if busy && is_blocked_by_busy cell then Blocked c cell else Done c cell ds) else Illegal c) (a.legal cell heard allowed)

ends_with_alike : (P R : Description) → Agrees P R → P.address ≤ 30 → (busy : Bool) (c : ℕ) (m : Option (List ℕ)) (t : Option (ℕ × ℕ)) → is_meant P c ≡ true →
    ends_with (addressed P R) busy c m t ≡ ends_with P busy c m t
ends_with_alike P R a low busy c None None m = refl
ends_with_alike P R a low busy c None (Some t) m = refl
ends_with_alike P R a low busy c (Some ds) t m = verdict_alike P R a busy c ds (cell_of c) (meant_cell P c low m)

pub at_gap_alike : (P R : Description) → Agrees P R → P.address ≤ 30 → (busy : Bool) (o : Open) → IsMeant P o → at_gap (addressed P R) busy o ≡ at_gap P busy o
at_gap_alike P R a low busy Idle m = refl
at_gap_alike P R a low busy (Collects c after) m = ends_with_alike P R a low busy c (complete c after) (transfer P (Some (c, after))) (m c refl)
at_gap_alike P R a low busy (Waits c d) m = refl
at_gap_alike P R a low busy (Resumes c after) m = ends_with_alike P R a low busy c (complete c after) None (m c refl)

note_alike : (P R : Description) → Agrees P R → P.address ≤ 30 → (h : List Noted) (e : Event) → ((b : Bus) → IsMeant P (open_now P h b)) → note (addressed P R) h e ≡ note P h e
note_alike P R a low h (Word b w) m = refl
note_alike P R a low h (Noise b) m = refl
note_alike P R a low h (Gap b) m = ap (λ x. noted h (Gap b) false (unless_ignored (replies_on h b) x)) (at_gap_alike P R a low (flag_now h Busy) (open_now P h b) (m b))
note_alike P R a low h _ m = refl

pub past_alike : (P R : Description) → Agrees P R → P.address ≤ 30 → (h : List Event) → past (addressed P R) h ≡ past P h
past_alike P R a low [] = refl
past_alike P R a low (e ∷ h) =
    ap (λ k. note (addressed P R) k e ∷ k) (past_alike P R a low h)
    ∙ ap (λ n. n ∷ past P h) (note_alike P R a low (past P h) e (open_meant P h))
