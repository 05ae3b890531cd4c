-- When a terminal comes to reply: only at a gap, and only one that was ready for it.
use Rattle.std.proofs.Common.{◌≡◌, ℕ, Bool, true, false, not, ◌&&◌, ◌||◌, ◌==◌, if◌then◌else◌, Option, Some, None, is_some, List, ◌∷◌, length, refl, ap, sym, ◌∙◌}
use Rattle.bus_word.specs.declared.word.Bus.{Bus}
use Rattle.bus_word.specs.declared.word.Raw.{Raw}
use Rattle.bus_word.specs.declared.cell.Cell.{Cell}
use Rattle.bus_word.specs.Command.{expected, is_broadcast}
use Rattle.bus_word.specs.Cell.{cell_of}
use Rattle.bus_legal.specs.Description.{Description}
use Rattle.terminal_rules.specs.declared.event.Event.{Event}
use Rattle.terminal_rules.specs.declared.event.Event.TheVariants.{Word, Noise, Gap, Write, Vector, Bit, Flag as FlagIs, Slot}
use Rattle.terminal_rules.specs.declared.event.Flag.TheVariants.{Busy}
use Rattle.terminal_rules.specs.History.{Replying, Illegal, Blocked, Done}
use Rattle.terminal_rules.specs.Open.{Open, Idle, Collects, Waits, Resumes, open_now, transfer}
use Rattle.terminal_rules.specs.Reply.{reply_now}
use Rattle.terminal_rules.specs.Flags.{flag_now}
use Rattle.terminal_rules.specs.Starts.{starts_now}
use Rattle.terminal_rules.specs.Ends.{is_blocked_by_busy, verdict, data_words, if_expected, ends_with, at_gap, unless_ignored, ends_now}
use Rattle.terminal_rules.specs.SinceReset.{off_now}
use Rattle.terminal_rules.specs.Turn.{is_answered, done_cell}
use Rattle.terminal_rules.specs.Past.{past}
use Rattle.terminal_rules.specs.Steps.{replies_on, sent_one, begun_if, dropped_if}
use Rattle.terminal_bus.specs.Discipline.{comes_from_subsystem}
use Rattle.terminal_recordings.proofs.Summary.{reply_law}
use Rattle.terminal_bus.proofs.Standing.{Standing, Clear, Ready, ready_if, asks_if, standing_of, standing}

abbrev pub replies_at : Description → List Event → Bool
replies_at P h = is_some (reply_now (past P h))

was_some : (s : Bool) (r : Option Replying) → is_some (dropped_if s r) ≡ true → is_some r ≡ true
was_some true r e = cc
was_some false r e = e

was_sent : (r : Option Replying) → is_some (sent_one r) ≡ true → is_some r ≡ true
was_sent None e = e
was_sent (Some r) e = refl

pub word_replies : (P : Description) (h : List Event) (c : Bus) (w : Raw) → replies_at P (Word c w ∷ h) ≡ true → replies_at P h ≡ true
word_replies P h c w e = was_some (starts_now P (past P h) (Word c w)) (reply_now (past P h)) (sym (ap is_some (reply_law P (past P h) (Word c w))) ∙ e)

pub noise_replies : (P : Description) (h : List Event) (c : Bus) → replies_at P (Noise c ∷ h) ≡ true → replies_at P h ≡ true
noise_replies P h c e = sym (ap is_some (reply_law P (past P h) (Noise c))) ∙ e

pub slot_replies : (P : Description) (h : List Event) → replies_at P (Slot ∷ h) ≡ true → replies_at P h ≡ true
slot_replies P h e = was_sent (reply_now (past P h)) (sym (ap is_some (reply_law P (past P h) Slot)) ∙ e)

pub subsystem_replies : (P : Description) (h : List Event) (e : Event) → comes_from_subsystem e ≡ true → replies_at P (e ∷ h) ≡ true → replies_at P h ≡ true
subsystem_replies P h (Word c w) t e = cc
subsystem_replies P h (Noise c) t e = cc
subsystem_replies P h (Gap c) t e = cc
subsystem_replies P h Slot t e = cc
subsystem_replies P h (Write q v) t e = sym (ap is_some (reply_law P (past P h) (Write q v))) ∙ e
subsystem_replies P h (Vector v) t e = sym (ap is_some (reply_law P (past P h) (Vector v))) ∙ e
subsystem_replies P h (Bit v) t e = sym (ap is_some (reply_law P (past P h) (Bit v))) ∙ e
subsystem_replies P h (FlagIs f v) t e = sym (ap is_some (reply_law P (past P h) (FlagIs f v))) ∙ e

-- what is answered is no broadcast
not_broad : (b off : Bool) → not (b || off) ≡ true → b ≡ false
not_broad true off e = cc
not_broad false off e = refl

verdict_own : (legal : Cell → Bool) (busy off : Bool) (c : ℕ) (ds : List ℕ) (o : Option Cell) → is_answered off (verdict legal busy c ds o) ≡ true → is_broadcast c ≡ false
verdict_own legal busy off c ds None e = not_broad (is_broadcast c) off e
verdict_own legal busy off c ds (Some cell) e = by_tests (legal cell) (busy && is_blocked_by_busy cell) e
  where
    by_tests : (l k : Bool) → is_answered off (if l then (if k then Blocked c cell else Done c cell ds) else Illegal c) ≡ true → is_broadcast c ≡ false
    by_tests false k e = not_broad (is_broadcast c) off e
    by_tests true true e = not_broad (is_broadcast c) off e
    by_tests true false e = not_broad (is_broadcast c) off e

own_of : (P : Description) (busy off : Bool) (c : ℕ) (ds : List ℕ) (t : Option (ℕ × ℕ)) (l : Bool) → is_answered off (ends_with P busy c (if l then Some ds else None) t) ≡ true → is_broadcast c ≡ false
own_of P busy off c ds t true e = verdict_own P.legal busy off c ds (cell_of c) e
own_of P busy off c ds None false e = cc
own_of P busy off c ds (Some t) false e = cc

ready_with : (P : Description) (busy off : Bool) (c : ℕ) (broad : Bool) (m : Option (List ℕ)) (t : Option (ℕ × ℕ)) (q : Standing) → is_broadcast c ≡ broad →
    is_answered off (ends_with P busy c (if_expected c m) t) ≡ true → (if broad then Clear else ready_if m q) ≡ Ready
ready_with P busy off c broad None None q b e = cc
ready_with P busy off c broad None (Some t) q b e = cc
ready_with P busy off c false (Some ds) t q b e = refl
ready_with P busy off c true (Some ds) t q b e =
    let own : is_broadcast c ≡ false = own_of P busy off c ds t (length ds == expected c) e in
    let no : true ≡ false = sym b ∙ own in cc

ready_of : (P : Description) (busy off : Bool) (o : Open) → is_answered off (at_gap P busy o) ≡ true → standing_of P o ≡ Ready
ready_of P busy off Idle e = cc
ready_of P busy off (Collects c after) e =
    ready_with P busy off c (is_broadcast c) (data_words after) (transfer P (Some (c, after))) (asks_if (transfer P (Some (c, after)))) refl e
ready_of P busy off (Waits c a) e = cc
ready_of P busy off (Resumes c after) e = ready_with P busy off c (is_broadcast c) (data_words after) None Clear refl e

pub gap_replies : (P : Description) (h : List Event) (b : Bus) → replies_at P (Gap b ∷ h) ≡ true → replies_at P h ≡ false → standing P h b ≡ Ready
gap_replies P h b e n =
    by_answer (is_answered (off_now (past P h) b) (ends_now P (past P h) (Gap b))) refl (sym (ap is_some (reply_law P (past P h) (Gap b))) ∙ e)
  where
    by_ignored : (i : Bool) → is_answered (off_now (past P h) b) (unless_ignored i (at_gap P (flag_now (past P h) Busy) (open_now P (past P h) b))) ≡ true → standing P h b ≡ Ready
    by_ignored true e = cc
    by_ignored false e = ready_of P (flag_now (past P h) Busy) (off_now (past P h) b) (open_now P (past P h) b) e

    by_answer : (a : Bool) → is_answered (off_now (past P h) b) (ends_now P (past P h) (Gap b)) ≡ a →
        is_some (begun_if a b (done_cell (ends_now P (past P h) (Gap b))) (reply_now (past P h))) ≡ true → standing P h b ≡ Ready
    by_answer true a e = by_ignored (replies_on (past P h) b) a
    by_answer false a e = let no : true ≡ false = sym e ∙ n in cc
