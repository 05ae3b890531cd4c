-- What decides how a terminal goes on, and what an event makes of it: neither data nor flags but busy do.
use Rattle.std.proofs.Common.{◌≡◌, ℕ, Bool, true, false, ◌&&◌, ◌||◌, if◌then◌else◌, Option, Some, None, is_some, List, [], ◌∷◌, refl, ap, sym, ◌∙◌, not, ◌==◌, subst}
use Rattle.bus_word.specs.declared.word.Bus.{Bus}
use Rattle.bus_word.specs.declared.word.Bus.TheVariants.{A, B}
use Rattle.bus_word.specs.declared.word.Raw.{Raw}
use Rattle.bus_word.specs.declared.status.StatusParts.{StatusParts}
use Rattle.bus_word.specs.declared.cell.Cell.TheVariants.{OwnReceive, OwnTransmit, BroadReceive, OwnMode, BroadMode}
use Rattle.bus_word.specs.Command.{address_of, transmits, is_broadcast}
use Rattle.bus_word.specs.declared.cell.Cell.{Cell}
use Rattle.bus_word.specs.Cell.{cell_of}
use Rattle.bus_legal.specs.Description.{Description}
use Rattle.terminal_rules.specs.declared.event.Event.{Event}
use Rattle.terminal_rules.specs.declared.event.Event.TheVariants.{Word, Noise, Gap, Write, Vector, Bit, Flag as FlagIs, Slot}
use Rattle.terminal_rules.specs.declared.event.Flag.{Flag}
use Rattle.terminal_rules.specs.declared.event.Flag.TheVariants.{Busy}
use Rattle.terminal_rules.specs.Buses.{same_bus, other}
use Rattle.terminal_rules.specs.LookBack.{or_else, some}
use Rattle.terminal_rules.specs.History.{Noted, Entry, is_gap_on, Replying, Ending, Nothing, Badly, Illegal, Blocked, Done}
use Rattle.terminal_rules.specs.Open.{Open, Idle, Collects, Waits, Resumes, is_on, open_now}
use Rattle.terminal_rules.specs.Reply.{reply_now, reply_bus, ignores}
use Rattle.terminal_rules.specs.Flags.{same_flag, flag_set, flag_now}
use Rattle.terminal_rules.specs.Starts.{is_for_terminal, is_word_for, heard_now, is_free, is_fresh_broadcast, starts_now}
use Rattle.terminal_rules.specs.Ends.{unless_ignored, ends_heard, ends_now}
use Rattle.terminal_rules.specs.SinceReset.{is_reset, off_now}
use Rattle.terminal_rules.specs.Status.{no_parts, with_error_if, reports_kept, spares, formed_error, formed_done, kept_by_end, kept_by_start, later_or, adds_error, kept_now, spares_kept}
use Rattle.terminal_rules.specs.Turn.{is_answered, done_cell}
use Rattle.terminal_rules.specs.Past.{note, past}
use Rattle.terminal_rules.specs.ResetLaws.{status_of_reset_is_next}
use Rattle.terminal_rules.specs.Steps.{reset_first, kept_after, unless_reset, sent_one, begun_if, dropped_if}
use Rattle.terminal_rules.proofs.OpenLaw.{after_gap, after_entry, unheard, after_event, open_law}
use Rattle.terminal_rules.proofs.BackLaw.{flag_step}
use Rattle.terminal_rules.proofs.KeptLaw.{kept_step}
use Rattle.terminal_recordings.proofs.Endings.{if_busy, Effects, effects, effects_law}
use Rattle.terminal_recordings.proofs.Summary.{Determined, determined, run_after, started, determined_law, reset_of, reset_of_law, answered, reply_new, reply_law}
use Rattle.terminal_schedules.proofs.Seen.{Seen, SeenOpen, seen_word, seen_open, seen_ending, command_in, entered, entered_law, gapped, gapped_law, gap_ending, gap_ending_law, entry_ending, entry_ending_law, seen_fresh, fresh_law, free_law, starting, starting_law, worded, worded_law, exact_ending}
use Rattle.terminal_schedules.specs.Schedule.{asks_by, asks_event}

-- what is seen of an event
pub data SeenEvent : Type 0 where
  WordComes : (bus : Bus) → (word : Seen) → SeenEvent
  NoiseComes : (bus : Bus) → SeenEvent
  GapComes : (bus : Bus) → SeenEvent
  SlotComes : SeenEvent
  FlagComes : (flag : Flag) → (value : Bool) → SeenEvent
  OtherComes : SeenEvent

abbrev pub seen_event : Bool → Description → Event → SeenEvent
seen_event e P (Word b w) = WordComes b (seen_word e P (Some w))
seen_event e P (Noise b) = NoiseComes b
seen_event e P (Gap b) = GapComes b
seen_event e P (Write q v) = OtherComes
seen_event e P (Vector v) = OtherComes
seen_event e P (Bit v) = OtherComes
seen_event e P (FlagIs f v) = FlagComes f v
seen_event e P Slot = SlotComes

-- what decides
pub record Shape : Type 0 where
  pub message : Bus → SeenOpen
  pub heard : Bus → Bool
  pub reply : Option Replying
  pub off : Bus → Bool
  pub busy : Bool
  pub error : Bool

abbrev pub shape_of : Bool → Description → List Noted → Shape
shape_of e P h = record {
  message = λ b. seen_open e P (open_now P h b);
  heard = heard_now P h;
  reply = reply_now h;
  off = off_now h;
  busy = flag_now h Busy;
  error = (kept_now P h).error;
}

abbrev pub shape : Bool → Description → List Event → Shape
shape e P h = shape_of e P (past P h)

-- whether it is ignored
abbrev pub ignored_by : Option Replying → SeenEvent → Bool
ignored_by r (WordComes b s) = is_on b (reply_bus r)
ignored_by r (NoiseComes b) = is_on b (reply_bus r)
ignored_by r (GapComes b) = is_on b (reply_bus r)
ignored_by r _ = false

pub ignored_law : (e : Bool) (P : Description) (r : Option Replying) (x : Event) → ignores r x ≡ ignored_by r (seen_event e P x)
ignored_law e P r (Word b w) = refl
ignored_law e P r (Noise b) = refl
ignored_law e P r (Gap b) = refl
ignored_law e P r (Write q v) = refl
ignored_law e P r (Vector v) = refl
ignored_law e P r (Bit v) = refl
ignored_law e P r (FlagIs f v) = refl
ignored_law e P r Slot = refl

-- the command that starts a message
abbrev pub start_by : Description → Bool → SeenEvent → Shape → Option ℕ
start_by P ignored (WordComes b s) t = starting P ignored (t.heard b) (is_free (t.message b)) (seen_fresh (t.message b)) s.command
start_by P ignored _ t = None

pub start_law : (e : Bool) (P : Description) (h : List Noted) (x : Event) → started x (starts_now P h x) ≡ start_by P (ignores (reply_now h) x) (seen_event e P x) (shape_of e P h)
start_law e P h (Word b w) =
    starting_law P w (ignores (reply_now h) (Word b w)) (heard_now P h b) (is_free (open_now P h b)) (is_fresh_broadcast (open_now P h b))
    ∙ (λ j. starting P (ignores (reply_now h) (Word b w)) (heard_now P h b) (free_law e P (open_now P h b) j) (fresh_law e P (open_now P h b) j) (command_in P (Some w)))
start_law e P h (Noise b) = refl
start_law e P h (Gap b) = refl
start_law e P h (Write q v) = refl
start_law e P h (Vector v) = refl
start_law e P h (Bit v) = refl
start_law e P h (FlagIs f v) = refl
start_law e P h Slot = refl

-- how it ends a message
abbrev no_word : Seen
no_word = record { carried = None; transmitter = None; status = None; command = None }

abbrev pub end_heard : Description → SeenEvent → Shape → Ending
end_heard P (GapComes b) t = gap_ending P t.busy (t.message b)
end_heard P (WordComes b s) t = entry_ending s (t.message b)
end_heard P (NoiseComes b) t = entry_ending no_word (t.message b)
end_heard P _ t = Nothing

heard_end_law : (e : Bool) (P : Description) (h : List Noted) (x : Event) → seen_ending e (ends_heard P h x) ≡ end_heard P (seen_event e P x) (shape_of e P h)
heard_end_law e P h (Word b w) = entry_ending_law e P (Some w) (open_now P h b)
heard_end_law e P h (Noise b) = entry_ending_law e P None (open_now P h b)
heard_end_law e P h (Gap b) = gap_ending_law e P (flag_now h Busy) (open_now P h b)
heard_end_law e P h (Write q v) = refl
heard_end_law e P h (Vector v) = refl
heard_end_law e P h (Bit v) = refl
heard_end_law e P h (FlagIs f v) = refl
heard_end_law e P h Slot = refl

unless_seen : (e i : Bool) (x : Ending) → seen_ending e (unless_ignored i x) ≡ unless_ignored i (seen_ending e x)
unless_seen e true x = refl
unless_seen e false x = refl

abbrev pub end_by : Description → Bool → SeenEvent → Shape → Ending
end_by P ignored v t = unless_ignored ignored (end_heard P v t)

pub end_law : (e : Bool) (P : Description) (h : List Noted) (x : Event) → seen_ending e (ends_now P h x) ≡ end_by P (ignores (reply_now h) x) (seen_event e P x) (shape_of e P h)
end_law e P h x = unless_seen e (ignores (reply_now h) x) (ends_heard P h x) ∙ ap (unless_ignored (ignores (reply_now h) x)) (heard_end_law e P h x)

-- the message on a bus
abbrev pub message_by : Bus → SeenEvent → Option ℕ → SeenOpen → SeenOpen
message_by b (WordComes c s) start o = worded (same_bus b c) s start o
message_by b (NoiseComes c) start o = if same_bus b c then entered no_word o else o
message_by b (GapComes c) start o = if same_bus b c then gapped o else o
message_by b _ start o = o

word_message : (e : Bool) (P : Description) (b c : Bus) (w : Raw) (s : Bool) (o : Open) → seen_open e P (after_event P b (Word c w) s o) ≡ message_by b (seen_event e P (Word c w)) (started (Word c w) s) (seen_open e P o)
word_message e P b c w true o = worded_law e P (same_bus b c) true w o
word_message e P b c w false o = worded_law e P (same_bus b c) false w o

event_message : (e : Bool) (P : Description) (b : Bus) (x : Event) (s : Bool) (o : Open) → seen_open e P (after_event P b x s o) ≡ message_by b (seen_event e P x) (started x s) (seen_open e P o)
event_message e P b (Word c w) s o = word_message e P b c w s o
event_message e P b (Noise c) s o =
    elim (same_bus b c) as (λ t. seen_open e P (if t then after_entry (unheard None) o else o) ≡ (if t then entered no_word (seen_open e P o) else seen_open e P o)) [ true ↦ entered_law e P None o | false ↦ refl ]
event_message e P b (Gap c) s o =
    elim (same_bus b c) as (λ t. seen_open e P (if t then after_gap P o else o) ≡ (if t then gapped (seen_open e P o) else seen_open e P o)) [ true ↦ gapped_law e P o | false ↦ refl ]
event_message e P b (Write q v) s o = refl
event_message e P b (Vector v) s o = refl
event_message e P b (Bit v) s o = refl
event_message e P b (FlagIs f v) s o = refl
event_message e P b Slot s o = refl

if_seen : (e : Bool) (P : Description) (i : Bool) (o p : Open) → seen_open e P (if i then o else p) ≡ (if i then seen_open e P o else seen_open e P p)
if_seen e P true o p = refl
if_seen e P false o p = refl

message_law : (e : Bool) (P : Description) (h : List Noted) (x : Event) (b : Bus) →
    seen_open e P (open_now P (note P h x ∷ h) b)
    ≡ (if ignores (reply_now h) x then seen_open e P (open_now P h b) else message_by b (seen_event e P x) (started x (starts_now P h x)) (seen_open e P (open_now P h b)))
message_law e P h x b =
    ap (seen_open e P) (open_law P h b x)
    ∙ (if_seen e P (ignores (reply_now h) x) (open_now P h b) (after_event P b x (starts_now P h x) (open_now P h b))
    ∙ ap (λ o. if ignores (reply_now h) x then seen_open e P (open_now P h b) else o) (event_message e P b x (starts_now P h x) (open_now P h b)))

-- words in the run
abbrev pub heard_by : Bus → SeenEvent → Bool → Bool
heard_by b (WordComes c s) h = if same_bus b c then is_some s.command || h else h
heard_by b (GapComes c) h = if same_bus b c then false else h
heard_by b _ h = h

abbrev meant : Description → List Entry → Bool
meant P r = some (λ x. is_word_for P x.word) r

command_there : (P : Description) (w : Raw) → is_for_terminal P w ≡ is_some (command_in P (Some w))
command_there P w = elim (is_for_terminal P w) as (λ t. t ≡ is_some (if t then Some w.bits else None)) [ true ↦ refl | false ↦ refl ]

event_heard : (e : Bool) (P : Description) (b : Bus) (x : Event) (s : Bool) (r : List Entry) → meant P (run_after b x s r) ≡ heard_by b (seen_event e P x) (meant P r)
event_heard e P b (Word c w) s r =
    elim (same_bus b c) as (λ t. meant P (if t then record { word = Some w; starts = s } ∷ r else r) ≡ (if t then is_some (command_in P (Some w)) || meant P r else meant P r)) [
      | true ↦ ap (λ t. t || meant P r) (command_there P w)
      | false ↦ refl
    ]
event_heard e P b (Noise c) s r =
    elim (same_bus b c) as (λ t. meant P (if t then record { word = None; starts = false } ∷ r else r) ≡ meant P r) [ true ↦ refl | false ↦ refl ]
event_heard e P b (Gap c) s r = elim (same_bus b c) as (λ t. meant P (if t then [] else r) ≡ (if t then false else meant P r)) [ true ↦ refl | false ↦ refl ]
event_heard e P b (Write q v) s r = refl
event_heard e P b (Vector v) s r = refl
event_heard e P b (Bit v) s r = refl
event_heard e P b (FlagIs f v) s r = refl
event_heard e P b Slot s r = refl

if_meant : (P : Description) (i : Bool) (r q : List Entry) → meant P (if i then r else q) ≡ (if i then meant P r else meant P q)
if_meant P true r q = refl
if_meant P false r q = refl

heard_law : (e : Bool) (P : Description) (h : List Noted) (x : Event) (b : Bus) →
    heard_now P (note P h x ∷ h) b ≡ (if ignores (reply_now h) x then heard_now P h b else heard_by b (seen_event e P x) (heard_now P h b))
heard_law e P h x b =
    ap (λ (d : Determined). meant P (d.run b)) (determined_law P h x)
    ∙ (if_meant P (ignores (reply_now h) x) ((determined P h).run b) (run_after b x (starts_now P h x) ((determined P h).run b))
    ∙ ap (λ t. if ignores (reply_now h) x then heard_now P h b else t) (event_heard e P b x (starts_now P h x) ((determined P h).run b)))

-- what an end does
effects_seen : (e : Bool) (P : Description) (x : Ending) → effects P x ≡ effects P (seen_ending e x)
effects_seen e P Nothing = refl
effects_seen e P (Badly c) = refl
effects_seen e P (Illegal c) = refl
effects_seen e P (Blocked c cell) = refl
effects_seen e P (Done c (OwnReceive s n) ds) = refl
effects_seen e P (Done c (OwnTransmit s n) ds) = refl
effects_seen e P (Done c (BroadReceive s n) ds) = refl
effects_seen e P (Done c (OwnMode code) ds) = refl
effects_seen e P (Done c (BroadMode code) ds) = refl

pub effects_by : (e : Bool) (P : Description) (h : List Noted) (x : Event) → effects P (if_busy (ends_now P h x)) ≡ effects P (seen_ending e (ends_now P h x))
effects_by e P h x = sym (effects_law P (ends_now P h x)) ∙ effects_seen e P (ends_now P h x)

-- a reset
abbrev pub silence_by : SeenEvent → (Bus → Bool) → Bool
silence_by (GapComes b) off = off b
silence_by _ off = false

abbrev pub slot_by : SeenEvent → Option Replying → Bool
slot_by SlotComes r = status_of_reset_is_next r
slot_by _ r = false

abbrev pub reset_by : SeenEvent → Effects → Shape → Bool
reset_by v f t = f.broadcast_reset || ((f.own_reset && silence_by v t.off) || slot_by v t.reply)

reset_event : (e : Bool) (P : Description) (h : List Noted) (x : Event) (f : Effects) → reset_of x f (determined P h) (reply_now h) ≡ reset_by (seen_event e P x) f (shape_of e P h)
reset_event e P h (Word b w) f = refl
reset_event e P h (Noise b) f = refl
reset_event e P h (Gap b) f = refl
reset_event e P h (Write q v) f = refl
reset_event e P h (Vector v) f = refl
reset_event e P h (Bit v) f = refl
reset_event e P h (FlagIs g v) f = refl
reset_event e P h Slot f = refl

pub reset_law : (e : Bool) (P : Description) (h : List Event) (x : Event) →
    is_reset (note P (past P h) x) ≡ reset_by (seen_event e P x) (effects P (seen_ending e (ends_now P (past P h) x))) (shape e P h)
reset_law e P h x =
    reset_of_law P h x
    ∙ (ap (λ f. reset_of x f (determined P (past P h)) (reply_now (past P h))) (effects_by e P (past P h) x)
    ∙ reset_event e P (past P h) x (effects P (seen_ending e (ends_now P (past P h) x))))

-- transmitters
abbrev pub gap_by : Bus → SeenEvent → Bool
gap_by b (GapComes c) = same_bus b c
gap_by b _ = false

abbrev pub off_by : Bus → SeenEvent → Bool → Effects → Bool → Bool
off_by b v reset f off = unless_reset reset false (if gap_by (other b) v then f.shuts else None) off

off_with : (e : Bool) (P : Description) (x : Event) (reset : Bool) (f : Effects) (b : Bus) (o : Bool) →
    (let none : Option Bool = None in unless_reset reset false (if is_gap_on (other b) x then f.shuts else none) o) ≡ off_by b (seen_event e P x) reset f o
off_with e P (Word c w) reset f b o = refl
off_with e P (Noise c) reset f b o = refl
off_with e P (Gap c) reset f b o = refl
off_with e P (Write q v) reset f b o = refl
off_with e P (Vector v) reset f b o = refl
off_with e P (Bit v) reset f b o = refl
off_with e P (FlagIs g v) reset f b o = refl
off_with e P Slot reset f b o = refl

off_law : (e : Bool) (P : Description) (h : List Noted) (x : Event) (b : Bus) →
    off_now (note P h x ∷ h) b ≡ off_by b (seen_event e P x) (is_reset (note P h x)) (effects P (seen_ending e (ends_now P h x))) (off_now h b)
off_law e P h x b =
    ap (λ (d : Determined). d.off b) (determined_law P h x)
    ∙ (off_with e P x (is_reset (note P h x)) (effects P (if_busy (ends_now P h x))) b (off_now h b)
    ∙ ap (λ f. off_by b (seen_event e P x) (is_reset (note P h x)) f (off_now h b)) (effects_by e P h x))

-- the reply
abbrev pub reply_by : SeenEvent → Option ℕ → Ending → Shape → Option Replying
reply_by (WordComes b s) start x t = dropped_if (is_some start) t.reply
reply_by (GapComes b) start x t = begun_if (is_answered (t.off b) x) b (done_cell x) t.reply
reply_by SlotComes start x t = sent_one t.reply
reply_by _ start x t = t.reply

answered_seen : (e off : Bool) (x : Ending) → is_answered off x ≡ is_answered off (seen_ending e x)
answered_seen e off Nothing = refl
answered_seen e off (Badly c) = refl
answered_seen e off (Illegal c) = refl
answered_seen e off (Blocked c cell) = refl
answered_seen e off (Done c cell ds) = refl

cell_seen : (e : Bool) (x : Ending) → done_cell x ≡ done_cell (seen_ending e x)
cell_seen e Nothing = refl
cell_seen e (Badly c) = refl
cell_seen e (Illegal c) = refl
cell_seen e (Blocked c cell) = refl
cell_seen e (Done c cell ds) = refl

starts_some : (s : Bool) (bits : ℕ) → s ≡ is_some (if s then Some bits else None)
starts_some true bits = refl
starts_some false bits = refl

reply_event : (e : Bool) (P : Description) (h : List Noted) (x : Event) (s : Bool) (y : Ending) →
    reply_new x s (answered (determined P h) x y) (done_cell y) (reply_now h) ≡ reply_by (seen_event e P x) (started x s) (seen_ending e y) (shape_of e P h)
reply_event e P h (Word c w) s y = ap (λ s. dropped_if s (reply_now h)) (starts_some s w.bits)
reply_event e P h (Noise c) s y = refl
reply_event e P h (Gap c) s y = λ j. begun_if (answered_seen e (off_now h c) y j) c (cell_seen e y j) (reply_now h)
reply_event e P h (Write q v) s y = refl
reply_event e P h (Vector v) s y = refl
reply_event e P h (Bit v) s y = refl
reply_event e P h (FlagIs g v) s y = refl
reply_event e P h Slot s y = refl

next_reply : (e : Bool) (P : Description) (h : List Noted) (x : Event) →
    reply_now (note P h x ∷ h) ≡ reply_by (seen_event e P x) (started x (starts_now P h x)) (seen_ending e (ends_now P h x)) (shape_of e P h)
next_reply e P h x = reply_law P h x ∙ reply_event e P h x (starts_now P h x) (ends_now P h x)

-- whether it is busy
abbrev pub busy_by : SeenEvent → Option Bool
busy_by (FlagComes f v) = if same_flag Busy f then Some v else None
busy_by _ = None

busy_event : (e : Bool) (P : Description) (x : Event) → flag_set Busy x ≡ busy_by (seen_event e P x)
busy_event e P (Word c w) = refl
busy_event e P (Noise c) = refl
busy_event e P (Gap c) = refl
busy_event e P (Write q v) = refl
busy_event e P (Vector v) = refl
busy_event e P (Bit v) = refl
busy_event e P (FlagIs g v) = refl
busy_event e P Slot = refl

busy_law : (e : Bool) (P : Description) (h : List Noted) (x : Event) → flag_now (note P h x ∷ h) Busy ≡ or_else (busy_by (seen_event e P x)) (flag_now h Busy)
busy_law e P h x = flag_step Busy (note P h x) h ∙ ap (λ o. or_else o (flag_now h Busy)) (busy_event e P x)

-- the message error that is kept
abbrev pub error_in : Option StatusParts → Option Bool
error_in None = None
error_in (Some s) = Some s.error

abbrev pub start_error : Description → Option ℕ → Option Bool
start_error P None = None
start_error P (Some c) = if spares P c then None else Some false

abbrev pub end_error : Description → Ending → Option Bool
end_error P Nothing = None
end_error P (Badly c) = if spares P c then None else Some true
end_error P (Illegal c) = Some true
end_error P (Blocked c cell) = Some false
end_error P (Done c cell ds) = if reports_kept cell then None else Some false

abbrev pub first_error : Option Bool → Option Bool → Option Bool
first_error (Some t) o = Some t
first_error None o = o

abbrev pub error_after : Option Bool → Bool → Bool → Bool
error_after (Some t) adds error = t
error_after None adds error = adds || error

abbrev pub error_by : Description → Option ℕ → Bool → Ending → Bool → Bool
error_by P start reset x error = error_after (first_error (start_error P start) (if reset then Some false else end_error P x)) (adds_error P x) error

start_kept : (P : Description) (start : Option ℕ) → error_in (kept_by_start P start) ≡ start_error P start
start_kept P None = refl
start_kept P (Some c) = elim (spares P c) as (λ t. error_in (if t then None else Some (record no_parts { broadcast = is_broadcast c })) ≡ (if t then None else Some false)) [ true ↦ refl | false ↦ refl ]

end_kept : (P : Description) (h : List Noted) (x : Ending) → error_in (kept_by_end P h false x) ≡ end_error P x
end_kept P h Nothing = refl
end_kept P h (Badly c) = elim (spares P c) as (λ t. error_in (if t then None else Some (formed_error h c)) ≡ (if t then None else Some true)) [ true ↦ refl | false ↦ refl ]
end_kept P h (Illegal c) = refl
end_kept P h (Blocked c cell) = refl
end_kept P h (Done c cell ds) =
    elim (reports_kept cell) as (λ t. error_in (if t then None else Some (formed_done P h c cell)) ≡ (if t then None else Some false)) [ true ↦ refl | false ↦ refl ]

later_kept : (a b : Option StatusParts) → error_in (later_or a b) ≡ first_error (error_in a) (error_in b)
later_kept None b = refl
later_kept (Some s) b = refl

reset_kept : (reset : Bool) (o : Option StatusParts) → error_in (reset_first reset o) ≡ (if reset then Some false else error_in o)
reset_kept true o = refl
reset_kept false o = refl

with_kept : (adds : Bool) (s : StatusParts) → (with_error_if adds s).error ≡ adds || s.error
with_kept true s = refl
with_kept false s = refl

after_kept : (o : Option StatusParts) (adds : Bool) (s : StatusParts) → (kept_after o adds s).error ≡ error_after (error_in o) adds s.error
after_kept None adds s = with_kept adds s
after_kept (Some t) adds s = refl

end_error_seen : (e : Bool) (P : Description) (x : Ending) → end_error P x ≡ end_error P (seen_ending e x)
end_error_seen e P Nothing = refl
end_error_seen e P (Badly c) = refl
end_error_seen e P (Illegal c) = refl
end_error_seen e P (Blocked c cell) = refl
end_error_seen e P (Done c cell ds) = refl

adds_seen : (e : Bool) (P : Description) (x : Ending) → adds_error P x ≡ adds_error P (seen_ending e x)
adds_seen e P Nothing = refl
adds_seen e P (Badly c) = refl
adds_seen e P (Illegal c) = refl
adds_seen e P (Blocked c cell) = refl
adds_seen e P (Done c cell ds) = refl

error_law : (e : Bool) (P : Description) (h : List Noted) (x : Event) →
    (kept_now P (note P h x ∷ h)).error ≡ error_by P (started x (starts_now P h x)) (is_reset (note P h x)) (seen_ending e (ends_now P h x)) (kept_now P h).error
error_law e P h x =
    let start : Option ℕ = started x (starts_now P h x) in
    let reset : Bool = is_reset (note P h x) in
    let y : Ending = ends_now P h x in
    ap (λ (s : StatusParts). s.error) (kept_step P (note P h x) h)
    ∙ (after_kept (later_or (kept_by_start P start) (reset_first reset (kept_by_end P h false y))) (adds_error P y) (kept_now P h)
    ∙ (ap (λ o. error_after o (adds_error P y) (kept_now P h).error) (later_kept (kept_by_start P start) (reset_first reset (kept_by_end P h false y)))
    ∙ ((λ j. error_after (first_error (start_kept P start j) (reset_kept reset (kept_by_end P h false y) j)) (adds_seen e P y j) (kept_now P h).error)
    ∙ (λ j. error_after (first_error (start_error P start) (if reset then Some false else ((end_kept P h y ∙ end_error_seen e P y) j))) (adds_error P (seen_ending e y)) (kept_now P h).error))))

-- what decides after an event
abbrev pub next : Description → SeenEvent → Shape → Shape
next P v t =
    let ignored : Bool = ignored_by t.reply v in
    let start : Option ℕ = start_by P ignored v t in
    let x : Ending = end_by P ignored v t in
    let f : Effects = effects P x in
    let reset : Bool = reset_by v f t in
    record {
      message = λ b. if ignored then t.message b else message_by b v start (t.message b);
      heard = λ b. if ignored then t.heard b else heard_by b v (t.heard b);
      reply = reply_by v start x t;
      off = λ b. off_by b v reset f (t.off b);
      busy = or_else (busy_by v) t.busy;
      error = error_by P start reset x t.error;
    }

abbrev pub next_with : Description → SeenEvent → Shape → Bool → Option ℕ → Ending → Bool → Shape
next_with P v t ignored start x reset =
    record {
      message = λ b. if ignored then t.message b else message_by b v start (t.message b);
      heard = λ b. if ignored then t.heard b else heard_by b v (t.heard b);
      reply = reply_by v start x t;
      off = λ b. off_by b v reset (effects P x) (t.off b);
      busy = or_else (busy_by v) t.busy;
      error = error_by P start reset x t.error;
    }

pub step_law : (e : Bool) (P : Description) (h : List Event) (x : Event) → shape e P (x ∷ h) ≡ next P (seen_event e P x) (shape e P h)
step_law e P h x =
    let n : List Noted = past P h in
    let v : SeenEvent = seen_event e P x in
    let t : Shape = shape e P h in
    let ignored : ignores (reply_now n) x ≡ ignored_by t.reply v = ignored_law e P (reply_now n) x in
    let start : started x (starts_now P n x) ≡ start_by P (ignored_by t.reply v) v t = start_law e P n x ∙ ap (λ i. start_by P i v t) ignored in
    let ends : seen_ending e (ends_now P n x) ≡ end_by P (ignored_by t.reply v) v t = end_law e P n x ∙ ap (λ i. end_by P i v t) ignored in
    let reset : is_reset (note P n x) ≡ reset_by v (effects P (end_by P (ignored_by t.reply v) v t)) t = reset_law e P h x ∙ ap (λ y. reset_by v (effects P y) t) ends in
    (λ j. record {
      message = λ b. message_law e P n x b j;
      heard = λ b. heard_law e P n x b j;
      reply = next_reply e P n x j;
      off = λ b. off_law e P n x b j;
      busy = busy_law e P n x j;
      error = error_law e P n x j;
    })
    ∙ (λ j. next_with P v t (ignored j) (start j) (ends j) (reset j))

-- The shape with the kept message error only while a message or a reply goes on, unless it is asked for.
abbrev pub idle_seen : SeenOpen → Bool
idle_seen Idle = true
idle_seen _ = false

abbrev pub rests : Shape → Bool
rests t = idle_seen (t.message A) && (idle_seen (t.message B) && not (is_some t.reply))

abbrev pub masked : Bool → Shape → Shape
masked z t = record t { error = if z then t.error else if rests t then false else t.error }

-- it starts no message that reports the kept status, unless that is asked for
abbrev pub CanMask : Bool → Description → SeenEvent → Type 0
CanMask z P (WordComes b s) = z ≡ false → (c : ℕ) → s.command ≡ Some c → spares P c ≡ false
CanMask z P _ = Unit {0}

pub none_can : (z : Bool) (P : Description) (b : Bus) (s : Seen) → s.command ≡ None → CanMask z P (WordComes b s)
none_can z P b s e q c k = let no : None ≡ Some c = sym e ∙ k in cc

spares_none : (P : Description) (o : Option Cell) → asks_by o ≡ false → spares_kept P o ≡ false
spares_none P None q = refl
spares_none P (Some cell) q = λ j. q j && P.legal cell

command_is : (t : Bool) (bits c : ℕ) → (if t then Some bits else None) ≡ Some c → bits ≡ c
command_is true bits c q = cc
command_is false bits c q = cc

pub event_can : (z e : Bool) (P : Description) (x : Event) → (z ≡ false → asks_event x ≡ false) → CanMask z P (seen_event e P x)
event_can z e P (Word b w) a = λ q c k. subst (λ (n : ℕ). spares P n ≡ false) (command_is (is_for_terminal P w) w.bits c k) (spares_none P (cell_of w.bits) (a q))
event_can z e P (Noise b) a = tt
event_can z e P (Gap b) a = tt
event_can z e P (Write p v) a = tt
event_can z e P (Vector v) a = tt
event_can z e P (Bit v) a = tt
event_can z e P (FlagIs f v) a = tt
event_can z e P Slot a = tt

abbrev seen_error : Description → SeenEvent → Shape → Bool → Bool
seen_error P v t error =
    let u : Shape = next P v (record t { error = error }) in
    if rests u then false else u.error

abbrev at_rest : Shape → Shape
at_rest t = record t { message = λ b. Idle; reply = None }

started_error : (P : Description) (c : ℕ) (r error : Bool) → spares P c ≡ false →
    (if r then false else error_by P (Some c) false Nothing error) ≡ (if r then false else error_by P (Some c) false Nothing false)
started_error P c r error e =
    (λ j. if r then false else error_after (first_error (if e j then None else Some false) None) false error)
    ∙ (λ j. if r then false else error_after (first_error (if sym e j then None else Some false) None) false false)

none_masked : (P : Description) (b : Bus) (s : Seen) (t : Shape) (error : Bool) → (let v : SeenEvent = WordComes b (record s { command = None }) in seen_error P v (at_rest t) error ≡ seen_error P v (at_rest t) false)
none_masked P A s t error = refl
none_masked P B s t error = refl

abbrev started_shape : Description → SeenEvent → Shape → Bool → Bool → ℕ → Shape
started_shape P v t error w c = next_with P v (record (at_rest t) { error = error }) false (if w then Some c else None) Nothing false

abbrev started_seen : Description → SeenEvent → Shape → Bool → Bool → ℕ → Bool
started_seen P v t error w c = if rests (started_shape P v t error w c) then false else (started_shape P v t error w c).error

start_masked : (P : Description) (b : Bus) (s : Seen) (t : Shape) (error w : Bool) (c : ℕ) → spares P c ≡ false → started_seen P (WordComes b s) t error w c ≡ started_seen P (WordComes b s) t false w c
start_masked P A s t error false c e = refl
start_masked P B s t error false c e = refl
start_masked P A s t error true c e = started_error P c false error e
start_masked P B s t error true c e = started_error P c false error e

word_masked : (P : Description) (b : Bus) (s : Seen) (t : Shape) (error : Bool) (k : Option ℕ) → s.command ≡ k → CanMask false P (WordComes b s) → seen_error P (WordComes b s) (at_rest t) error ≡ seen_error P (WordComes b s) (at_rest t) false
word_masked P b s t error None q n =
    (λ j. seen_error P (WordComes b (record s { command = q j })) (at_rest t) error)
    ∙ (none_masked P b s t error ∙ (λ j. seen_error P (WordComes b (record s { command = sym q j })) (at_rest t) false))
word_masked P b s t error (Some c) q n =
    (λ j. seen_error P (WordComes b (record s { command = q j })) (at_rest t) error)
    ∙ (start_masked P b (record s { command = Some c }) t error (not false && ((not (t.heard b) && true) || (false && (transmits c && (address_of c == P.address))))) c (n refl c q)
    ∙ (λ j. seen_error P (WordComes b (record s { command = sym q j })) (at_rest t) false))

rest_masked : (P : Description) (v : SeenEvent) (t : Shape) (error : Bool) → CanMask false P v → seen_error P v (at_rest t) error ≡ seen_error P v (at_rest t) false
rest_masked P (WordComes b s) t error n = word_masked P b s t error s.command refl n
rest_masked P (NoiseComes A) t error n = refl
rest_masked P (NoiseComes B) t error n = refl
rest_masked P (GapComes A) t error n = refl
rest_masked P (GapComes B) t error n = refl
rest_masked P SlotComes t error n = refl
rest_masked P (FlagComes f v) t error n = refl
rest_masked P OtherComes t error n = refl

idle_from : (o : SeenOpen) → idle_seen o ≡ true → o ≡ Idle
idle_from Idle e = refl
idle_from (Collects c xs) e = cc
idle_from (Waits c a) e = cc
idle_from (Resumes c xs) e = cc

none_from : (r : Option Replying) → not (is_some r) ≡ true → r ≡ None
none_from None e = refl
none_from (Some r) e = cc

left_among : (a b : Bool) → a && b ≡ true → a ≡ true
left_among true b e = refl
left_among false b e = cc

right_of : (a b : Bool) → a && b ≡ true → b ≡ true
right_of true b e = e
right_of false b e = cc

is_at_rest : (t : Shape) → rests t ≡ true → t ≡ at_rest t
is_at_rest t e = λ j. record t { message = λ b. on_bus b j; reply = none_from t.reply (right_of (idle_seen (t.message B)) (not (is_some t.reply)) (right_of (idle_seen (t.message A)) (idle_seen (t.message B) && not (is_some t.reply)) e)) j }
  where
    on_bus : (b : Bus) → t.message b ≡ Idle
    on_bus A = idle_from (t.message A) (left_among (idle_seen (t.message A)) (idle_seen (t.message B) && not (is_some t.reply)) e)
    on_bus B = idle_from (t.message B) (left_among (idle_seen (t.message B)) (not (is_some t.reply)) (right_of (idle_seen (t.message A)) (idle_seen (t.message B) && not (is_some t.reply)) e))

error_masked : (P : Description) (v : SeenEvent) (t : Shape) (r : Bool) → rests t ≡ r → CanMask false P v → seen_error P v t t.error ≡ seen_error P v t (if r then false else t.error)
error_masked P v t false q n = refl
error_masked P v t true q n =
    (λ j. seen_error P v (is_at_rest t q j) t.error) ∙ (rest_masked P v t t.error n ∙ (λ j. seen_error P v (sym (is_at_rest t q) j) false))

-- so the masked shape after an event is told by the masked shape before it
pub mask_law : (z : Bool) (P : Description) (v : SeenEvent) (t : Shape) → CanMask z P v → masked z (next P v t) ≡ masked z (next P v (masked z t))
mask_law true P v t n = refl
mask_law false P (WordComes b s) t n = λ j. record (next P (WordComes b s) t) { error = error_masked P (WordComes b s) t (rests t) refl n j }
mask_law false P (NoiseComes b) t n = λ j. record (next P (NoiseComes b) t) { error = error_masked P (NoiseComes b) t (rests t) refl n j }
mask_law false P (GapComes b) t n = λ j. record (next P (GapComes b) t) { error = error_masked P (GapComes b) t (rests t) refl n j }
mask_law false P SlotComes t n = λ j. record (next P SlotComes t) { error = error_masked P SlotComes t (rests t) refl n j }
mask_law false P (FlagComes f v) t n = λ j. record (next P (FlagComes f v) t) { error = error_masked P (FlagComes f v) t (rests t) refl n j }
mask_law false P OtherComes t n = λ j. record (next P OtherComes t) { error = error_masked P OtherComes t (rests t) refl n j }

-- so far as it is masked, what is seen decides the same
abbrev pub shown : Bool → Description → List Event → Shape
shown z P h = masked z (shape true P h)

pub shown_step : (z : Bool) (P : Description) (h : List Event) (x : Event) (t u : Shape) → CanMask z P (seen_event true P x) → shown z P h ≡ t → masked z (next P (seen_event true P x) t) ≡ u → shown z P (x ∷ h) ≡ u
shown_step z P h x t u c s n =
    let v : SeenEvent = seen_event true P x in
    ap (masked z) (step_law true P h x) ∙ (mask_law z P v (shape true P h) c ∙ ((λ j. masked z (next P v (s j))) ∙ n))

-- without message error there is nothing to mask
both_false : (r : Bool) → (if r then false else false) ≡ false
both_false true = refl
both_false false = refl

pub unmasked : (z : Bool) (t : Shape) → t.error ≡ false → masked z t ≡ t
unmasked true t e = refl
unmasked false t e = λ j. record t { error = ((λ i. if rests t then false else e i) ∙ (both_false (rests t) ∙ sym e)) j }

pub shown_next : (z : Bool) (P : Description) (h : List Event) (x : Event) (t u : Shape) → CanMask z P (seen_event true P x) → shown z P h ≡ t → next P (seen_event true P x) t ≡ u → u.error ≡ false → shown z P (x ∷ h) ≡ u
shown_next z P h x t u c s n e = shown_step z P h x t u c s (ap (masked z) n ∙ unmasked z u e)

-- the very end, by what is seen before it
end_mask : (z i : Bool) (P : Description) (v : SeenEvent) (t : Shape) → end_by P i v t ≡ end_by P i v (masked z t)
end_mask z i P (WordComes b s) t = refl
end_mask z i P (NoiseComes b) t = refl
end_mask z i P (GapComes b) t = refl
end_mask z i P SlotComes t = refl
end_mask z i P (FlagComes f v) t = refl
end_mask z i P OtherComes t = refl

pub ends_as : (z : Bool) (P : Description) (h : List Event) (x : Event) (t : Shape) (y : Ending) → shown z P h ≡ t → (let v : SeenEvent = seen_event true P x in end_by P (ignored_by t.reply v) v t ≡ y) →
    ends_now P (past P h) x ≡ y
ends_as z P h x t y s e =
    let v : SeenEvent = seen_event true P x in
    sym (exact_ending (ends_now P (past P h) x))
    ∙ (end_law true P (past P h) x
    ∙ ((λ j. end_by P (ignored_law true P (reply_now (past P h)) x j) v (shape true P h))
    ∙ (end_mask z (ignored_by (reply_now (past P h)) v) P v (shape true P h) ∙ ((λ j. end_by P (ignored_by (s j).reply v) v (s j)) ∙ e))))
