-- One terminal, event by event: its message on a bus, its reply, and what a transfer leaves as it was.
use Rattle.std.proofs.Common.{◌≡◌, ℕ, Bool, true, false, not, ◌&&◌, ◌||◌, if◌then◌else◌, Option, Some, None, List, [], ◌∷◌, refl, ap, ◌∙◌}
use Rattle.bus_word.specs.declared.word.Bus.{Bus}
use Rattle.bus_word.specs.declared.word.Bus.TheVariants.{A, B}
use Rattle.bus_word.specs.declared.word.Raw.{Raw}
use Rattle.bus_legal.specs.Description.{Description}
use Rattle.terminal_rules.specs.declared.event.Event.{Event}
use Rattle.terminal_rules.specs.declared.event.Event.TheVariants.{Word, Gap, Slot}
use Rattle.terminal_rules.specs.declared.event.Flag.{Flag}
use Rattle.terminal_rules.specs.declared.event.Flag.TheVariants.{Busy}
use Rattle.terminal_rules.specs.Buses.{same_bus}
use Rattle.terminal_rules.specs.History.{Noted, noted_as, Replying, Ending, Nothing, Badly, Illegal, Blocked, Done, NoTurn}
use Rattle.terminal_rules.specs.Open.{Open, Idle, Collects, Waits, Resumes, is_on, open_now, status_at}
use Rattle.terminal_rules.specs.Reply.{reply_now, reply_bus}
use Rattle.terminal_rules.specs.Flags.{flag_now}
use Rattle.terminal_rules.specs.Starts.{is_for_terminal, heard_now, is_free, starts_now}
use Rattle.terminal_rules.specs.Ends.{at_gap, at_entry, unless_ignored, ends_now}
use Rattle.terminal_rules.specs.SinceReset.{off_now, inhibited_now, held_now}
use Rattle.terminal_rules.specs.Turn.{is_answered, done_cell, unless_ignored_turn}
use Rattle.terminal_rules.specs.Past.{past}
use Rattle.terminal_rules.specs.Out.{hands, handing_over, sends, sending_out, out}
use Rattle.terminal_rules.specs.Steps.{replies_on, sent_one, begun_if, dropped_if}
use Rattle.terminal_rules.proofs.OpenLaw.{after_gap, after_entry, after_word, unheard, open_law}
use Rattle.terminal_rules.proofs.BackLaw.{flag_step, inhibited_step, off_step, held_step}
use Rattle.terminal_recordings.proofs.Summary.{reply_law}

-- the message on a bus, and the reply
pub record At (P : Description) (h : List Event) (b : Bus) (o : Open) (r : Option Replying) : Type 0 where
  pub message : open_now P (past P h) b ≡ o
  pub reply : reply_now (past P h) ≡ r

after_all : (P : Description) (h : List Event) (b c : Bus) (o : Open) → At P h b o None → replies_on (past P h) c ≡ false
after_all P h b c o a = ap (λ r. is_on c (reply_bus r)) a.reply

dropped_none : (s : Bool) → (let none : Option Replying = None in dropped_if s none ≡ none)
dropped_none true = refl
dropped_none false = refl

pub word_at : (P : Description) (h : List Event) (b : Bus) (w : Raw) (o : Open) (s : Bool) → At P h b o None → starts_now P (past P h) (Word b w) ≡ s → At P (Word b w ∷ h) b (after_word b b w s o) None
word_at P h b w o s a e = record {
  message = open_law P (past P h) b (Word b w) ∙ (λ j. if after_all P h b b o a j then open_now P (past P h) b else after_word b b w (e j) (a.message j));
  reply = reply_law P (past P h) (Word b w) ∙ ((λ j. dropped_if (e j) (a.reply j)) ∙ dropped_none s);
}

no_start : (i f x : Bool) → f ≡ false → not i && (f && x) ≡ false
no_start true f x e = refl
no_start false true x e = cc
no_start false false x e = refl

pub not_started : (P : Description) (h : List Event) (b : Bus) (w : Raw) → is_for_terminal P w ≡ false → starts_now P (past P h) (Word b w) ≡ false
not_started P h b w e = no_start (replies_on (past P h) b) (is_for_terminal P w) _ e

same_self : (b : Bus) (w : Raw) (o : Open) → after_word b b w false o ≡ after_entry (unheard (Some w)) o
same_self A w o = refl
same_self B w o = refl

pub not_for_at : (P : Description) (h : List Event) (b : Bus) (w : Raw) (o : Open) → At P h b o None → is_for_terminal P w ≡ false → At P (Word b w ∷ h) b (after_entry (unheard (Some w)) o) None
not_for_at P h b w o a e =
    let n : At P (Word b w ∷ h) b (after_word b b w false o) None = word_at P h b w o false a (not_started P h b w e) in
    record { message = n.message ∙ same_self b w o; reply = n.reply }

start_is : (b : Bus) (w : Raw) (o : Open) → after_word b b w true o ≡ Collects w.bits []
start_is A w o = refl
start_is B w o = refl

started_by_tests : (i f x free y : Bool) → i ≡ false → f ≡ true → x ≡ false → free ≡ true → not i && (f && ((not x && free) || y)) ≡ true
started_by_tests true f x free y p q r s = cc
started_by_tests false false x free y p q r s = cc
started_by_tests false true true free y p q r s = cc
started_by_tests false true false false y p q r s = cc
started_by_tests false true false true y p q r s = refl

pub start_at : (P : Description) (h : List Event) (b : Bus) (w : Raw) → At P h b Idle None → heard_now P (past P h) b ≡ false → is_for_terminal P w ≡ true → At P (Word b w ∷ h) b (Collects w.bits []) None
start_at P h b w a heard f =
    let s : starts_now P (past P h) (Word b w) ≡ true =
    started_by_tests (replies_on (past P h) b) (is_for_terminal P w) (heard_now P (past P h) b) (is_free (open_now P (past P h) b)) _ (after_all P h b b Idle a) f heard (ap is_free a.message) in
    let n : At P (Word b w ∷ h) b (after_word b b w true Idle) None = word_at P h b w Idle true a s in
    record { message = n.message ∙ start_is b w Idle; reply = n.reply }

pub slot_at : (P : Description) (h : List Event) (b : Bus) (o : Open) (r : Option Replying) → At P h b o r → At P (Slot ∷ h) b o (sent_one r)
slot_at P h b o r a = record {
  message = open_law P (past P h) b Slot ∙ a.message;
  reply = reply_law P (past P h) Slot ∙ ap sent_one a.reply;
}

-- how a gap ends the message
pub gap_ends : (P : Description) (h : List Event) (b : Bus) (o : Open) → At P h b o None → ends_now P (past P h) (Gap b) ≡ at_gap P (flag_now (past P h) Busy) o
gap_ends P h b o a = λ j. unless_ignored (after_all P h b b o a j) (at_gap P (flag_now (past P h) Busy) (a.message j))

gap_self : (P : Description) (b : Bus) (o : Open) → (if same_bus b b then after_gap P o else o) ≡ after_gap P o
gap_self P A o = refl
gap_self P B o = refl

pub gap_at : (P : Description) (h : List Event) (b : Bus) (o : Open) (x : Ending) → At P h b o None → ends_now P (past P h) (Gap b) ≡ x →
    (let none : Option Replying = None in At P (Gap b ∷ h) b (after_gap P o) (begun_if (is_answered (off_now (past P h) b) x) b (done_cell x) none))
gap_at P h b o x a e = record {
  message = open_law P (past P h) b (Gap b) ∙ ((λ j. if after_all P h b b o a j then open_now P (past P h) b else (if same_bus b b then after_gap P (a.message j) else a.message j)) ∙ gap_self P b o);
  reply = reply_law P (past P h) (Gap b) ∙ (λ j. begun_if (is_answered (off_now (past P h) b) (e j)) b (done_cell (e j)) (a.reply j));
}

pub gap_out : (P : Description) (h : List Event) (b : Bus) (x : Ending) → ends_now P (past P h) (Gap b) ≡ x → out P h (Gap b) ≡ handing_over (hands P x)
gap_out P h b x e = ap (λ x. handing_over (hands P x)) e

pub slot_out : (P : Description) (h : List Event) (r : Option Replying) → reply_now (past P h) ≡ r → out P h Slot ≡ sending_out (sends P (past P h) r)
slot_out P h r e = ap (λ r. sending_out (sends P (past P h) r)) e

-- what stays as it was
pub record Steady (P : Description) (b : Bus) (k h : List Noted) : Type 0 where
  pub flags : (f : Flag) → flag_now k f ≡ flag_now h f
  pub off : off_now k b ≡ off_now h b
  pub inhibited : inhibited_now k ≡ inhibited_now h
  pub held : (s i : ℕ) → held_now P k s i ≡ held_now P h s i

pub steady_then : (P : Description) (b : Bus) (l k h : List Noted) → Steady P b l k → Steady P b k h → Steady P b l h
steady_then P b l k h x y = record {
  flags = λ f. x.flags f ∙ y.flags f;
  off = x.off ∙ y.off;
  inhibited = x.inhibited ∙ y.inhibited;
  held = λ s i. x.held s i ∙ y.held s i;
}

abbrev IsUnfit : Ending → Type 0
IsUnfit Nothing = Unit {0}
IsUnfit (Badly c) = Unit {0}
IsUnfit _ = ⊥

entry_unfit : (i : Bool) (w : Option Raw) (o : Open) → IsUnfit (unless_ignored i (at_entry w o))
entry_unfit true w o = tt
entry_unfit false w Idle = tt
entry_unfit false w (Collects c after) = tt
entry_unfit false w (Waits c a) = elim (status_at a w) as (λ s. IsUnfit (if s then Nothing else Badly c)) [ true ↦ tt | false ↦ tt ]
entry_unfit false w (Resumes c after) = tt

word_note_steady : (P : Description) (h : List Noted) (b c : Bus) (w : Raw) (i s : Bool) (x : Ending) → IsUnfit x → Steady P b (noted_as (Word c w) (unless_ignored_turn i NoTurn) s x ∷ h) h
word_note_steady P h b c w true s Nothing u = record { flags = λ f. flag_step f (noted_as (Word c w) (unless_ignored_turn true NoTurn) s Nothing) h; off = off_step b (noted_as (Word c w) (unless_ignored_turn true NoTurn) s Nothing) h; inhibited = inhibited_step (noted_as (Word c w) (unless_ignored_turn true NoTurn) s Nothing) h; held = λ t n. held_step P t n (noted_as (Word c w) (unless_ignored_turn true NoTurn) s Nothing) h }
word_note_steady P h b c w false s Nothing u = record { flags = λ f. flag_step f (noted_as (Word c w) NoTurn s Nothing) h; off = off_step b (noted_as (Word c w) NoTurn s Nothing) h; inhibited = inhibited_step (noted_as (Word c w) NoTurn s Nothing) h; held = λ t n. held_step P t n (noted_as (Word c w) NoTurn s Nothing) h }
word_note_steady P h b c w true s (Badly d) u = record { flags = λ f. flag_step f (noted_as (Word c w) (unless_ignored_turn true NoTurn) s (Badly d)) h; off = off_step b (noted_as (Word c w) (unless_ignored_turn true NoTurn) s (Badly d)) h; inhibited = inhibited_step (noted_as (Word c w) (unless_ignored_turn true NoTurn) s (Badly d)) h; held = λ t n. held_step P t n (noted_as (Word c w) (unless_ignored_turn true NoTurn) s (Badly d)) h }
word_note_steady P h b c w false s (Badly d) u = record { flags = λ f. flag_step f (noted_as (Word c w) NoTurn s (Badly d)) h; off = off_step b (noted_as (Word c w) NoTurn s (Badly d)) h; inhibited = inhibited_step (noted_as (Word c w) NoTurn s (Badly d)) h; held = λ t n. held_step P t n (noted_as (Word c w) NoTurn s (Badly d)) h }
word_note_steady P h b c w i s (Illegal d) u = absurd u
word_note_steady P h b c w i s (Blocked d cell) u = absurd u
word_note_steady P h b c w i s (Done d cell ds) u = absurd u

pub word_steady : (P : Description) (h : List Event) (b c : Bus) (w : Raw) → Steady P b (past P (Word c w ∷ h)) (past P h)
word_steady P h b c w =
    word_note_steady P (past P h) b c w (replies_on (past P h) c) (starts_now P (past P h) (Word c w)) (ends_now P (past P h) (Word c w)) (entry_unfit (replies_on (past P h) c) (Some w) (open_now P (past P h) c))
