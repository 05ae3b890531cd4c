-- What a noted history is summed up by, and how an event changes that.
use Rattle.std.proofs.Common.{◌≡◌, ℕ, Bool, true, false, not, ◌&&◌, ◌||◌, if◌then◌else◌, Option, Some, None, List, [], ◌∷◌, refl, ap, ◌∙◌}
use Rattle.bus_word.specs.declared.word.Bus.{Bus}
use Rattle.bus_word.specs.declared.word.Bus.TheVariants.{A, B}
use Rattle.bus_word.specs.declared.word.Raw.{Raw}
use Rattle.bus_word.specs.declared.status.StatusParts.{StatusParts}
use Rattle.bus_word.specs.declared.cell.Cell.{Cell}
use Rattle.bus_word.specs.declared.cell.Cell.TheVariants.{OwnMode}
use Rattle.bus_word.specs.Mode.{last_command}
use Rattle.bus_legal.specs.Description.{Description}
use Rattle.terminal_rules.specs.declared.event.Event.{Event}
use Rattle.terminal_rules.specs.declared.event.Event.TheVariants.{Word, Noise, Gap, Write, Vector, Bit, Flag as FlagIs, Slot}
use Rattle.terminal_rules.specs.declared.event.Flag.{Flag}
use Rattle.terminal_rules.specs.Buses.{same_bus, other}
use Rattle.terminal_rules.specs.LookBack.{latest, since, some}
use Rattle.terminal_rules.specs.History.{Noted, noted_as, NoTurn, Ignored, Replying, Entry, Ending, Nothing, of_word, is_gap_on, run}
use Rattle.terminal_rules.specs.Open.{Open, open_now}
use Rattle.terminal_rules.specs.Reply.{begun, begins_reply, reply_of, reply_now, ignores}
use Rattle.terminal_rules.specs.Starts.{is_word_for, heard_now, is_free, is_fresh_broadcast, starts_message, starts_now}
use Rattle.terminal_rules.specs.Flags.{flag_now}
use Rattle.terminal_rules.specs.Ends.{unless_ignored, ends_now, ends_heard}
use Rattle.terminal_rules.specs.SinceReset.{is_reset, inhibited_now, off_now, start_bits, recorded_by, last_now}
use Rattle.terminal_rules.specs.Status.{kept_by_start, later_or, adds_error, kept_now}
use Rattle.terminal_rules.specs.Turn.{is_answered, done_cell, turn_of_gap, turn_of_slot, unless_ignored_turn}
use Rattle.terminal_rules.specs.Past.{note, past}
use Rattle.terminal_rules.specs.ResetLaws.{is_gap_in_silence, status_of_reset_is_next, is_slot_of_reset}
use Rattle.terminal_rules.specs.Steps.{replies_on, reset_first, kept_after, unless_reset, sent_one, begun_if, dropped_if}
use Rattle.terminal_rules.proofs.OpenLaw.{after_event, unheard, open_law}
use Rattle.terminal_rules.proofs.BackLaw.{inhibited_step, off_step, last_step}
use Rattle.terminal_rules.proofs.KeptLaw.{kept_step}
use Rattle.terminal_rules.proofs.ReplyLaw.{reply_word_law, reply_noise_law, reply_gap_law, reply_slot_law}
use Rattle.terminal_rules.proofs.ResetCases.{reset_law}
use Rattle.terminal_recordings.specs.Recordings.{is_seen}
use Rattle.terminal_recordings.proofs.Endings.{if_busy, Effects, effects, effects_law, kept_of, kept_end_law}

-- what the events on the buses decide, whatever the subsystem does
pub record Determined : Type 0 where
  pub run : Bus → List Entry
  pub message : Bus → Open
  pub off : Bus → Bool
  pub last : ℕ

-- the last command, where own mode code 18 is legal; where it isn't, the last command is never reported
abbrev pub reported_last : Description → ℕ → ℕ
reported_last P c = if P.legal (OwnMode last_command) then c else 0

abbrev pub determined : Description → List Noted → Determined
determined P h = record { run = run h; message = open_now P h; off = off_now h; last = reported_last P (last_now h) }

pub record Summary : Type 0 where
  pub determined : Determined
  pub inhibited : Bool
  pub kept : StatusParts
  pub reply : Option Replying

abbrev pub summary : Description → List Noted → Summary
summary P h = record { determined = determined P h; inhibited = inhibited_now h; kept = kept_now P h; reply = reply_now h }

-- an event of the subsystem changes nothing of it
reply_quiet : (h : List Noted) (e : Event) → is_seen e ≡ false → reply_now (noted_as e NoTurn false Nothing ∷ h) ≡ reply_now h
reply_quiet h (Word b w) u = cc
reply_quiet h (Noise b) u = cc
reply_quiet h (Gap b) u = cc
reply_quiet h Slot u = cc
reply_quiet h (Write q v) u =
    elim (latest (λ p. begun p.turn) h) as (λ o. reply_of (noted_as (Write q v) NoTurn false Nothing ∷ since begins_reply h) o ≡ reply_of (since begins_reply h) o) [ None ↦ refl | Some r ↦ refl ]
reply_quiet h (Vector v) u =
    elim (latest (λ p. begun p.turn) h) as (λ o. reply_of (noted_as (Vector v) NoTurn false Nothing ∷ since begins_reply h) o ≡ reply_of (since begins_reply h) o) [ None ↦ refl | Some r ↦ refl ]
reply_quiet h (Bit v) u =
    elim (latest (λ p. begun p.turn) h) as (λ o. reply_of (noted_as (Bit v) NoTurn false Nothing ∷ since begins_reply h) o ≡ reply_of (since begins_reply h) o) [ None ↦ refl | Some r ↦ refl ]
reply_quiet h (FlagIs f v) u =
    elim (latest (λ p. begun p.turn) h) as (λ o. reply_of (noted_as (FlagIs f v) NoTurn false Nothing ∷ since begins_reply h) o ≡ reply_of (since begins_reply h) o) [ None ↦ refl | Some r ↦ refl ]

abbrev with_reply : Summary → Option Replying → Summary
with_reply s r = record s { reply = r }

pub quiet_law : (P : Description) (h : List Noted) (e : Event) → is_seen e ≡ false → summary P (note P h e ∷ h) ≡ summary P h
quiet_law P h (Word b w) u = cc
quiet_law P h (Noise b) u = cc
quiet_law P h (Gap b) u = cc
quiet_law P h Slot u = cc
quiet_law P h (Write q v) u = ap (with_reply (summary P h)) (reply_quiet h (Write q v) u)
quiet_law P h (Vector v) u = ap (with_reply (summary P h)) (reply_quiet h (Vector v) u)
quiet_law P h (Bit v) u = ap (with_reply (summary P h)) (reply_quiet h (Bit v) u)
quiet_law P h (FlagIs f v) u = ap (with_reply (summary P h)) (reply_quiet h (FlagIs f v) u)

-- the run of a bus
abbrev pub run_after : Bus → Event → Bool → List Entry → List Entry
run_after b (Word c w) s r = if same_bus b c then record { word = Some w; starts = s } ∷ r else r
run_after b (Noise c) s r = if same_bus b c then unheard None ∷ r else r
run_after b (Gap c) s r = if same_bus b c then [] else r
run_after b e s r = r

run_word : (h : List Noted) (b c : Bus) (w : Raw) (i s : Bool) (x : Ending) →
    run (noted_as (Word c w) (unless_ignored_turn i NoTurn) (not i && s) x ∷ h) b ≡ (if i then run h b else run_after b (Word c w) (not i && s) (run h b))
run_word h b c w true s x = refl
run_word h A A w false s x = refl
run_word h A B w false s x = refl
run_word h B A w false s x = refl
run_word h B B w false s x = refl

run_noise : (h : List Noted) (b c : Bus) (i : Bool) (x : Ending) →
    run (noted_as (Noise c) (unless_ignored_turn i NoTurn) false x ∷ h) b ≡ (if i then run h b else run_after b (Noise c) false (run h b))
run_noise h b c true x = refl
run_noise h A A false x = refl
run_noise h A B false x = refl
run_noise h B A false x = refl
run_noise h B B false x = refl

run_gap : (h : List Noted) (b c : Bus) (i a : Bool) (cell : Option Cell) (x : Ending) →
    run (noted_as (Gap c) (unless_ignored_turn i (turn_of_gap c a cell)) false x ∷ h) b ≡ (if i then run h b else run_after b (Gap c) false (run h b))
run_gap h b c true a cell x = refl
run_gap h A A false true cell x = refl
run_gap h A A false false cell x = refl
run_gap h A B false true cell x = refl
run_gap h A B false false cell x = refl
run_gap h B A false true cell x = refl
run_gap h B A false false cell x = refl
run_gap h B B false true cell x = refl
run_gap h B B false false cell x = refl

run_slot : (h : List Noted) (b : Bus) (r : Option Replying) (x : Ending) → run (noted_as Slot (turn_of_slot r) false x ∷ h) b ≡ run h b
run_slot h b None x = refl
run_slot h b (Some r) x = refl

run_law : (P : Description) (h : List Noted) (b : Bus) (e : Event) →
    run (note P h e ∷ h) b ≡ (if ignores (reply_now h) e then run h b else run_after b e (starts_now P h e) (run h b))
run_law P h b (Word c w) = run_word h b c w (replies_on h c) (starts_message P w (heard_now P h c) (is_free (open_now P h c)) (is_fresh_broadcast (open_now P h c))) (ends_now P h (Word c w))
run_law P h b (Noise c) = run_noise h b c (replies_on h c) (ends_now P h (Noise c))
run_law P h b (Gap c) = run_gap h b c (replies_on h c) (is_answered (off_now h c) (ends_now P h (Gap c))) (done_cell (ends_now P h (Gap c))) (ends_now P h (Gap c))
run_law P h b Slot = run_slot h b (reply_now h) Nothing
run_law P h b (Write q v) = refl
run_law P h b (Vector v) = refl
run_law P h b (Bit v) = refl
run_law P h b (FlagIs f v) = refl

-- the bits of the command that a start gives
abbrev pub started : Event → Bool → Option ℕ
started e starts = if starts then of_word (λ b w. w.bits) e else None

-- what an event makes of what is determined, by whether it is ignored, starts a message and is a reset, and what it effects
abbrev pub determined_after : Description → Event → Bool → Bool → Bool → Effects → Determined → Determined
determined_after P e ignored starts reset f d = record {
  run = λ b. if ignored then d.run b else run_after b e starts (d.run b);
  message = λ b. if ignored then d.message b else after_event P b e starts (d.message b);
  off = λ b. unless_reset reset false (if is_gap_on (other b) e then f.shuts else None) (d.off b);
  last = reported_last P (unless_reset reset 0 (recorded_by (started e starts)) d.last);
}

reported_after : (legal reset : Bool) (o : Option ℕ) (c : ℕ) →
    (if legal then unless_reset reset 0 o c else 0) ≡ (if legal then unless_reset reset 0 o (if legal then c else 0) else 0)
reported_after true reset o c = refl
reported_after false reset o c = refl

pub determined_law : (P : Description) (h : List Noted) (e : Event) →
    determined P (note P h e ∷ h) ≡ determined_after P e (ignores (reply_now h) e) (starts_now P h e) (is_reset (note P h e)) (effects P (if_busy (ends_now P h e))) (determined P h)
determined_law P h e =
    let p : Noted = note P h e in
    let f : effects P (ends_now P h e) ≡ effects P (if_busy (ends_now P h e)) = effects_law P (ends_now P h e) in
    (λ j. record { run = λ b. run_law P h b e j; message = λ b. open_law P h b e j; off = λ b. off_step b p h j; last = reported p j })
    ∙ (λ j. determined_after P e (ignores (reply_now h) e) (starts_now P h e) (is_reset (note P h e)) (f j) (determined P h))
  where
    reported : (p : Noted) → reported_last P (last_now (p ∷ h)) ≡ reported_last P (unless_reset (is_reset p) 0 (recorded_by (start_bits p)) (reported_last P (last_now h)))
    reported p = ap (reported_last P) (last_step p h) ∙ reported_after (P.legal (OwnMode last_command)) (is_reset p) (recorded_by (start_bits p)) (last_now h)

-- whether the terminal flag is inhibited
pub inhibited_law : (P : Description) (h : List Noted) (e : Event) →
    inhibited_now (note P h e ∷ h) ≡ unless_reset (is_reset (note P h e)) false (effects P (if_busy (ends_now P h e))).inhibits (inhibited_now h)
inhibited_law P h e =
    inhibited_step (note P h e) h
    ∙ (λ j. unless_reset (is_reset (note P h e)) false (effects_law P (ends_now P h e) j).inhibits (inhibited_now h))

-- whether it starts a message
abbrev pub starts_of : Description → Bool → Event → Determined → Bool
starts_of P ignored (Word b w) d = not ignored && starts_message P w (some (λ x. is_word_for P x.word) (d.run b)) (is_free (d.message b)) (is_fresh_broadcast (d.message b))
starts_of P ignored e d = false

pub starts_law : (P : Description) (h : List Noted) (e : Event) → starts_now P h e ≡ starts_of P (ignores (reply_now h) e) e (determined P h)
starts_law P h (Word b w) = refl
starts_law P h (Noise b) = refl
starts_law P h (Gap b) = refl
starts_law P h (Write q v) = refl
starts_law P h (Vector v) = refl
starts_law P h (Bit v) = refl
starts_law P h (FlagIs f v) = refl
starts_law P h Slot = refl

-- whether it is a reset
abbrev pub in_silence : Determined → Event → Bool
in_silence d (Gap b) = d.off b
in_silence d e = false

abbrev pub in_slot : Option Replying → Event → Bool
in_slot r Slot = status_of_reset_is_next r
in_slot r e = false

abbrev pub reset_of : Event → Effects → Determined → Option Replying → Bool
reset_of e f d r = f.broadcast_reset || ((f.own_reset && in_silence d e) || in_slot r e)

silence_law : (P : Description) (h : List Noted) (e : Event) → is_gap_in_silence h e ≡ in_silence (determined P h) e
silence_law P h (Word b w) = refl
silence_law P h (Noise b) = refl
silence_law P h (Gap b) = refl
silence_law P h (Write q v) = refl
silence_law P h (Vector v) = refl
silence_law P h (Bit v) = refl
silence_law P h (FlagIs f v) = refl
silence_law P h Slot = refl

in_slot_law : (h : List Noted) (e : Event) → is_slot_of_reset h e ≡ in_slot (reply_now h) e
in_slot_law h (Word b w) = refl
in_slot_law h (Noise b) = refl
in_slot_law h (Gap b) = refl
in_slot_law h (Write q v) = refl
in_slot_law h (Vector v) = refl
in_slot_law h (Bit v) = refl
in_slot_law h (FlagIs f v) = refl
in_slot_law h Slot = refl

pub reset_of_law : (P : Description) (h : List Event) (e : Event) →
    is_reset (note P (past P h) e) ≡ reset_of e (effects P (if_busy (ends_now P (past P h) e))) (determined P (past P h)) (reply_now (past P h))
reset_of_law P h e =
    reset_law P h e
    ∙ (λ j. (effects_law P (ends_now P (past P h) e) j).broadcast_reset || (((effects_law P (ends_now P (past P h) e) j).own_reset && silence_law P (past P h) e j) || in_slot_law (past P h) e j))

-- the kept status
abbrev pub kept_new : Description → (Flag → Bool) → Option ℕ → Bool → Bool → Ending → StatusParts → StatusParts
kept_new P g start reset inhibited x k = kept_after (later_or (kept_by_start P start) (reset_first reset (kept_of P g inhibited x))) (adds_error P x) k

pub kept_law : (P : Description) (h : List Noted) (e : Event) →
    kept_now P (note P h e ∷ h) ≡ kept_new P (flag_now h) (started e (starts_now P h e)) (is_reset (note P h e)) (inhibited_now h) (if_busy (ends_now P h e)) (kept_now P h)
kept_law P h e =
    kept_step P (note P h e) h
    ∙ (λ j. kept_after (later_or (kept_by_start P (started e (starts_now P h e))) (reset_first (is_reset (note P h e)) (kept_end_law P h (ends_now P h e) j))) ((effects_law P (ends_now P h e) j).adds) (kept_now P h))

-- the reply in progress
abbrev pub answered : Determined → Event → Ending → Bool
answered d (Gap b) x = is_answered (d.off b) x
answered d e x = false

abbrev pub reply_new : Event → Bool → Bool → Option Cell → Option Replying → Option Replying
reply_new (Word b w) s a cell r = dropped_if s r
reply_new (Gap b) s a cell r = begun_if a b cell r
reply_new Slot s a cell r = sent_one r
reply_new e s a cell r = r

reply_word : (h : List Noted) (c : Bus) (w : Raw) (s : Bool) (x : Ending) (i : Bool) → replies_on h c ≡ i →
    reply_now (noted_as (Word c w) (unless_ignored_turn i NoTurn) (not i && s) x ∷ h) ≡ dropped_if (not i && s) (reply_now h)
reply_word h c w s x true e =
    elim (latest (λ p. begun p.turn) h) as (λ o. reply_of (noted_as (Word c w) Ignored false x ∷ since begins_reply h) o ≡ reply_of (since begins_reply h) o) [ None ↦ refl | Some r ↦ refl ]
reply_word h c w s x false e = reply_word_law h c w s x e

reply_noise : (h : List Noted) (c : Bus) (x : Ending) (i : Bool) → reply_now (noted_as (Noise c) (unless_ignored_turn i NoTurn) false x ∷ h) ≡ reply_now h
reply_noise h c x true =
    elim (latest (λ p. begun p.turn) h) as (λ o. reply_of (noted_as (Noise c) Ignored false x ∷ since begins_reply h) o ≡ reply_of (since begins_reply h) o) [ None ↦ refl | Some r ↦ refl ]
reply_noise h c x false = reply_noise_law h c x

reply_gap : (h : List Noted) (c : Bus) (off : Bool) (x : Ending) (i : Bool) →
    reply_now (noted_as (Gap c) (unless_ignored_turn i (turn_of_gap c (is_answered off (unless_ignored i x)) (done_cell (unless_ignored i x)))) false (unless_ignored i x) ∷ h)
    ≡ begun_if (is_answered off (unless_ignored i x)) c (done_cell (unless_ignored i x)) (reply_now h)
reply_gap h c off x true =
    elim (latest (λ p. begun p.turn) h) as (λ o. reply_of (noted_as (Gap c) Ignored false Nothing ∷ since begins_reply h) o ≡ reply_of (since begins_reply h) o) [ None ↦ refl | Some r ↦ refl ]
reply_gap h c off x false = reply_gap_law h c (is_answered off x) (done_cell x) x

pub reply_law : (P : Description) (h : List Noted) (e : Event) →
    reply_now (note P h e ∷ h) ≡ reply_new e (starts_now P h e) (answered (determined P h) e (ends_now P h e)) (done_cell (ends_now P h e)) (reply_now h)
reply_law P h (Word c w) = reply_word h c w (starts_message P w (heard_now P h c) (is_free (open_now P h c)) (is_fresh_broadcast (open_now P h c))) (ends_now P h (Word c w)) (replies_on h c) refl
reply_law P h (Noise c) = reply_noise h c (ends_now P h (Noise c)) (replies_on h c)
reply_law P h (Gap c) = reply_gap h c (off_now h c) (ends_heard P h (Gap c)) (replies_on h c)
reply_law P h Slot = reply_slot_law h (reply_now h) Nothing
reply_law P h (Write q v) = reply_quiet h (Write q v) refl
reply_law P h (Vector v) = reply_quiet h (Vector v) refl
reply_law P h (Bit v) = reply_quiet h (Bit v) refl
reply_law P h (FlagIs f v) = reply_quiet h (FlagIs f v) refl
