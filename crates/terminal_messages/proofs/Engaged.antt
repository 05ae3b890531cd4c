-- Where the terminal is in a message or replies, and what an event has to do with it.
use Rattle.std.proofs.Common.{◌≡◌, suc, Bool, true, false, not, ◌&&◌, ◌||◌, if◌then◌else◌, Option, Some, None, List, [], ◌∷◌, refl, ap, ◌∙◌}
use Rattle.bus_word.specs.declared.word.Bus.{Bus}
use Rattle.bus_word.specs.declared.word.Bus.TheVariants.{A, B}
use Rattle.bus_word.specs.declared.word.Raw.{Raw}
use Rattle.bus_word.specs.declared.cell.Cell.{Cell}
use Rattle.bus_word.specs.Word.{is_command}
use Rattle.bus_legal.specs.Description.{Description}
use Rattle.terminal_rules.specs.declared.event.Event.{Event}
use Rattle.terminal_rules.specs.declared.event.Event.TheVariants.{Word, Noise, Gap, Write, Vector, Bit, Flag as FlagIs, Slot}
use Rattle.terminal_rules.specs.declared.event.Flag.TheVariants.{Busy}
use Rattle.terminal_rules.specs.Buses.{same_bus}
use Rattle.terminal_rules.specs.History.{Noted, Replying, Entry}
use Rattle.terminal_rules.specs.Flags.{flag_now}
use Rattle.terminal_rules.specs.Open.{Open, Idle, Collects, Waits, Resumes, open_now, is_on}
use Rattle.terminal_rules.specs.Reply.{reply_now, reply_bus}
use Rattle.terminal_rules.specs.Starts.{starts_now, starts_message, heard_now, is_free, is_fresh_broadcast, is_for_terminal}
use Rattle.terminal_rules.specs.Ends.{ends_now, at_gap, unless_ignored}
use Rattle.terminal_rules.specs.SinceReset.{off_now}
use Rattle.terminal_rules.specs.Turn.{is_answered, done_cell}
use Rattle.terminal_rules.specs.Steps.{replies_on, sent_one, begun_if, dropped_if}
use Rattle.terminal_rules.specs.Past.{note}
use Rattle.terminal_rules.proofs.OpenLaw.{open_law, after_event}
use Rattle.terminal_recordings.proofs.Summary.{reply_law, reply_new, answered, determined}
use Rattle.terminal_recordings.proofs.Idle.{stays}
use Rattle.bus_terminal.specs.Waiting.{is_open, is_engaged}

-- what a test of two parts says
pub or_false : (x y : Bool) → (x || y) ≡ false → (x ≡ false) × (y ≡ false)
or_false false false e = (refl, refl)
or_false false true e = cc
or_false true y e = cc

pub idle_of : (o : Open) → is_open o ≡ false → o ≡ Idle
idle_of Idle e = refl
idle_of (Collects c after) e = cc
idle_of (Waits c a) e = cc
idle_of (Resumes c after) e = cc

sent_off : (b : Bus) (r : Option Replying) → is_on b (reply_bus r) ≡ false → is_on b (reply_bus (sent_one r)) ≡ false
sent_off b None e = refl
sent_off b (Some r) e = by_test _ e
  where
    by_test : (t : Bool) → is_on b (Some r.bus) ≡ false → is_on b (reply_bus (if t then Some (record r { number = suc r.number }) else None)) ≡ false
    by_test true e = e
    by_test false e = refl

dropped_off : (b : Bus) (s : Bool) (r : Option Replying) → is_on b (reply_bus r) ≡ false → is_on b (reply_bus (dropped_if s r)) ≡ false
dropped_off b true r e = refl
dropped_off b false r e = e

-- no reply begins on a bus without a message
none_begins : (P : Description) (busy off i : Bool) (o : Open) → o ≡ Idle → is_answered off (unless_ignored i (at_gap P busy o)) ≡ false
none_begins P busy off true o e = refl
none_begins P busy off false o e = ap (λ o. is_answered off (at_gap P busy o)) e

begun_off : (b c : Bus) (a : Bool) (cell : Option Cell) (r : Option Replying) → (same_bus b c ≡ true → a ≡ false) → is_on b (reply_bus r) ≡ false →
    is_on b (reply_bus (begun_if a c cell r)) ≡ false
begun_off b c false cell r k e = e
begun_off A A true cell r k e = let wrong : true ≡ false = k refl in cc
begun_off A B true cell r k e = refl
begun_off B A true cell r k e = refl
begun_off B B true cell r k e = let wrong : true ≡ false = k refl in cc

idle_there : (o : Bus → Open) (b c : Bus) → same_bus b c ≡ true → o b ≡ Idle → o c ≡ Idle
idle_there o A A s e = e
idle_there o A B s e = cc
idle_there o B A s e = cc
idle_there o B B s e = e

reply_off : (P : Description) (h : List Noted) (e : Event) (b : Bus) → open_now P h b ≡ Idle → is_on b (reply_bus (reply_now h)) ≡ false →
    is_on b (reply_bus (reply_new e (starts_now P h e) (answered (determined P h) e (ends_now P h e)) (done_cell (ends_now P h e)) (reply_now h))) ≡ false
reply_off P h (Word c w) b o r = dropped_off b (starts_now P h (Word c w)) (reply_now h) r
reply_off P h (Noise c) b o r = r
reply_off P h (Gap c) b o r =
    begun_off b c _ (done_cell (ends_now P h (Gap c))) (reply_now h) (λ s. none_begins P (flag_now h Busy) (off_now h c) (replies_on h c) (open_now P h c) (idle_there (open_now P h) b c s o)) r
reply_off P h Slot b o r = sent_off b (reply_now h) r
reply_off P h (Write q v) b o r = r
reply_off P h (Vector v) b o r = r
reply_off P h (Bit v) b o r = r
reply_off P h (FlagIs f v) b o r = r

-- after an event that starts nothing, the terminal is engaged only where it was
stays_off : (P : Description) (h : List Noted) (e : Event) (b : Bus) → starts_now P h e ≡ false → is_engaged P h b ≡ false → is_engaged P (note P h e ∷ h) b ≡ false
stays_off P h e b s n =
    let both : (is_open (open_now P h b) ≡ false) × (is_on b (reply_bus (reply_now h)) ≡ false) = or_false (is_open (open_now P h b)) (is_on b (reply_bus (reply_now h))) n in
    let o : open_now P h b ≡ Idle = idle_of (open_now P h b) both.0 in
    (λ j. is_open (stays P h e b s o j) || is_on b (reply_bus (reply_law P h e j)))
    ∙ reply_off P h e b o both.1

pub engaged_before : (P : Description) (h : List Noted) (e : Event) (b : Bus) → starts_now P h e ≡ false → is_engaged P (note P h e ∷ h) b ≡ true → is_engaged P h b ≡ true
engaged_before P h e b s n = by_case (is_engaged P h b) refl
  where
    by_case : (v : Bool) → is_engaged P h b ≡ v → is_engaged P h b ≡ true
    by_case true v = v
    by_case false v = cc (stays_off P h e b s v, n)

-- a start is not ignored, and is a command
and_true : (x y : Bool) → (x && y) ≡ true → (x ≡ true) × (y ≡ true)
and_true true true e = (refl, refl)
and_true true false e = cc
and_true false y e = cc

not_true : (x : Bool) → not x ≡ true → x ≡ false
not_true true e = cc
not_true false e = refl

pub start_heard : (P : Description) (h : List Noted) (c : Bus) (w : Raw) → starts_now P h (Word c w) ≡ true → (replies_on h c ≡ false) × (is_command w ≡ true)
start_heard P h c w s =
    let both : (not (replies_on h c) ≡ true) × (starts_message P w (heard_now P h c) (is_free (open_now P h c)) (is_fresh_broadcast (open_now P h c)) ≡ true) = and_true _ _ s in
    let ours : (is_for_terminal P w ≡ true) × _ = and_true _ _ both.1 in
    (not_true _ both.0, (and_true _ _ ours.0).0)

-- a start leaves the terminal engaged on its bus alone
other_off : (P : Description) (c d : Bus) (w : Raw) (o : Open) → same_bus d c ≡ false → is_open (after_event P d (Word c w) true o) ≡ false
other_off P c d w o e = ap (λ (x : Bool). is_open {F = List Entry} (if x then Collects w.bits [] else Idle)) e

pub start_alone : (P : Description) (h : List Noted) (c d : Bus) (w : Raw) → same_bus d c ≡ false → starts_now P h (Word c w) ≡ true → is_engaged P (note P h (Word c w) ∷ h) d ≡ false
start_alone P h c d w e s =
    (λ j. is_open (open_law P h d (Word c w) j) || is_on d (reply_bus (reply_law P h (Word c w) j)))
    ∙ ((λ j. is_open (if (start_heard P h c w s).0 j then open_now P h d else after_event P d (Word c w) (s j) (open_now P h d)) || is_on d (reply_bus (dropped_if (s j) (reply_now h))))
    ∙ ap (λ x. x || false) (other_off P c d w (open_now P h d) e))
