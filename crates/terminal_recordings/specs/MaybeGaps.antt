-- A recording in which gaps may have come or not, and when a description explains it.
use Rattle.std.specs.Prelude.{◌≡◌, ◌↔◌, ◌≤◌, Bool, true, false, not, ◌&&◌, ◌||◌, if◌then◌else◌, ◌⊎◌, Option, Some, None, List, [], ◌∷◌, ◌++◌}
use Rattle.bus_word.specs.declared.word.Bus.{Bus}
use Rattle.bus_word.specs.declared.cell.Cell.TheVariants.{OwnMode}
use Rattle.bus_word.specs.Mode as mode
use Rattle.bus_legal.specs.Description.{Description}
use Rattle.terminal_rules.specs.declared.event.Event.{Event}
use Rattle.terminal_rules.specs.declared.event.Event.TheVariants.{Word, Noise, Gap}
use Rattle.terminal_rules.specs.Buses.{same_bus}
use Rattle.terminal_rules.specs.History.{Entry, run}
use Rattle.terminal_rules.specs.Reply.{reply_now}
use Rattle.terminal_rules.specs.SinceReset.{inhibited_now, off_now, last_now}
use Rattle.terminal_rules.specs.Status.{kept_now}
use Rattle.terminal_rules.specs.Out.{Sending, sent_in, out, outs_from}
use Rattle.terminal_rules.specs.Open.{Open, Waits}
use Rattle.terminal_rules.specs.Steps.{replies_on}
use Rattle.terminal_rules.specs.Past.{past, open_at, history_after}
use Rattle.terminal_recordings.specs.Recordings.{Sighting, IsExplainedAfter, IsSighting, IsRecording}
use Rattle.terminal_recordings.specs.Completion.{told_before, shown_from}
use Rattle.terminal_recordings.specs.Masks.{MaskedSighting, FitsWord, FitsMasked, unmasked, ExplainsSome}
use Rattle.terminal_recordings.specs.Later.{IsExplainedLater, IsExplainedAnyTime, Gaps, no_gaps, gaps_with, first_command, asks_back, BeginsAfresh, ShutDown, shut_history}

-- what is seen at one time, where a data word may be left open, or a gap that may have come on a bus or not
pub data MaybeSighting : Type 0 where
  Seen : (masked : MaskedSighting) → MaybeSighting
  MaybeGap : (bus : Bus) → MaybeSighting

-- a gap that came
abbrev pub gap_on : Bus → MaskedSighting
gap_on b = record { sighting = record { event = Gap b; sent = None }; any_word = false }

-- a recording is this sighting, and then more
abbrev pub FirstThen : MaskedSighting → (List MaskedSighting → Type 0) → List MaskedSighting → Type 0
FirstThen s Rest [] = ⊥
FirstThen s Rest (t ∷ later) = (t ≡ s) × Rest later

-- a recording is a reading of one with such gaps: each of them is in it or left out
abbrev pub IsReadingOf : List MaybeSighting → List MaskedSighting → Type 0
IsReadingOf [] recording = recording ≡ []
IsReadingOf (Seen s ∷ ms) recording = FirstThen s (IsReadingOf ms) recording
IsReadingOf (MaybeGap b ∷ ms) recording = IsReadingOf ms recording ⊎ FirstThen (gap_on b) (IsReadingOf ms) recording

-- one of the readings is explained
abbrev pub ExplainsReading : (List Sighting → Type 0) → List MaybeSighting → Type 0
ExplainsReading explains ms = (recording : List MaskedSighting) × IsReadingOf ms recording × ExplainsSome explains recording

-- after a history
abbrev pub IsExplainedSomehow : Description → List Event → List MaybeSighting → Type 0
IsExplainedSomehow P h ms = ExplainsReading (IsExplainedAfter P h) ms

abbrev pub IsMaybeRecording : List MaybeSighting → Type 0
IsMaybeRecording [] = Unit {0}
IsMaybeRecording (Seen s ∷ ms) = IsSighting s.sighting × IsMaybeRecording ms
IsMaybeRecording (MaybeGap b ∷ ms) = IsMaybeRecording ms

-- the reading with none of the gaps
abbrev pub certain : List MaybeSighting → List MaskedSighting
certain [] = []
certain (Seen s ∷ ms) = s ∷ certain ms
certain (MaybeGap b ∷ ms) = certain ms

-- of that the recording with the words that stand where any may be
abbrev pub certainly : List MaybeSighting → List Sighting
certainly ms = unmasked (certain ms)

-- ---- what a sighting does to a history, before others

-- what is told before it
abbrev pub told_history : Description → List Event → MaskedSighting → List Sighting → List Event
told_history P h s later = history_after (told_before P h s.sighting later) h

-- the word that is sent then
abbrev pub sent_then : Description → List Event → MaskedSighting → List Sighting → Option Sending
sent_then P h s later = sent_in (out P (told_history P h s later) s.sighting.event)

-- and the history after it
abbrev pub after_seen : Description → List Event → MaskedSighting → List Sighting → List Event
after_seen P h s later = s.sighting.event ∷ told_history P h s later

-- ---- where a gap that may have come does nothing

abbrev pub no_entry : List Entry → Bool
no_entry [] = true
no_entry r = false

-- a message waits for the status word of another terminal
abbrev pub waits : Open → Bool
waits (Waits c a) = true
waits o = false

-- A gap on this bus changes nothing: it is ignored, since the terminal replies there; or it is a second gap, with no word or noise
-- since the last, and no message waits there.
abbrev pub gap_does_nothing : Description → List Event → Bus → Bool
gap_does_nothing P h b = replies_on (past P h) b || (no_entry (run (past P h) b) && not (waits (open_at P h b)))

-- no word or noise came on a bus since its last gap, with one event more
abbrev pub is_quiet_after : Event → Bus → Bool → Bool
is_quiet_after (Word b w) c q = if same_bus c b then false else q
is_quiet_after (Noise b) c q = if same_bus c b then false else q
is_quiet_after (Gap b) c q = if same_bus c b then true else q
is_quiet_after e c q = q

-- two histories have met: the same is left of both
pub record HaveMet (P : Description) (h k : List Event) : Type 0 where
  pub run : (b : Bus) → run (past P h) b ≡ run (past P k) b
  pub message : (b : Bus) → open_at P h b ≡ open_at P k b
  pub off : (b : Bus) → off_now (past P h) b ≡ off_now (past P k) b
  pub last : last_now (past P h) ≡ last_now (past P k)
  pub inhibited : inhibited_now (past P h) ≡ inhibited_now (past P k)
  pub kept : kept_now P (past P h) ≡ kept_now P (past P k)
  pub reply : reply_now (past P h) ≡ reply_now (past P k)

-- ---- recordings that begin later

-- What comes after the first pause after which a recording begins afresh. Gaps that may have come are not counted.
abbrev pub fresh_part : Description → Gaps → List MaybeSighting → Option (List MaybeSighting)
fresh_part P g [] = None
fresh_part P g (MaybeGap b ∷ later) = fresh_part P g later
fresh_part P g (Seen s ∷ later) =
    elim (gaps_with g s.sighting.event s.sighting.sent) [ None ↦ if asks_back P (first_command P (certainly later)) then fresh_part P no_gaps later else Some later | Some n ↦ fresh_part P n later ]

-- Where a gap does nothing, whatever comes later is answered as without it; so one that may have come may be left out. A recording with
-- gaps that may have come is explained somehow exactly if what is shown of one of its readings fits it. It is if it is empty (`none`); with a
-- sighting first, exactly if just that is sent, and the rest is explained after it (`seen`); and with such a gap first, exactly if the
-- rest is explained without or with it (`gap`). What is told before a sighting is the same in all readings, since no gap shows a status
-- word, and what is seen behind the recording may be told too. What is explained after a history is so after each that it has met. From a
-- gap on a bus to the next word or noise there the run is empty, also where the terminal ignores them (`quiet`). What explains more explains less. One that begins afresh, later than power-up, is explained somehow exactly if it is after one of the four
-- beginnings. And whenever a recording began, its first part that begins afresh after a pause is explained later, if the whole can be
-- explained.
pub record MaybeLaw : Type 0 where
  pub same_answers : (P : Description) (h : List Event) (b : Bus) (es : List Event) → gap_does_nothing P h b ≡ true → outs_from P (Gap b ∷ h) es ≡ outs_from P h es
  pub left_out : (P : Description) (h : List Event) (b : Bus) (ms : List MaybeSighting) → P.address ≤ 30 → IsMaybeRecording ms → gap_does_nothing P h b ≡ true →
      IsExplainedSomehow P h (MaybeGap b ∷ ms) ↔ IsExplainedSomehow P h ms
  pub decided : (P : Description) (h : List Event) (ms : List MaybeSighting) → P.address ≤ 30 → IsMaybeRecording ms →
      IsExplainedSomehow P h ms ↔ ((recording : List MaskedSighting) × IsReadingOf ms recording × FitsMasked recording (shown_from P h (unmasked recording)))
  pub none : (P : Description) (h : List Event) → IsExplainedSomehow P h []
  pub seen : (P : Description) (h : List Event) (s : MaskedSighting) (ms : List MaybeSighting) (later : List Sighting) → P.address ≤ 30 → IsMaybeRecording (Seen s ∷ ms) → IsRecording later →
      IsExplainedSomehow P h (Seen s ∷ ms) ↔ (FitsWord s.any_word s.sighting.sent (sent_then P h s (certainly ms ++ later)) × IsExplainedSomehow P (after_seen P h s (certainly ms ++ later)) ms)
  pub gap : (P : Description) (h : List Event) (b : Bus) (ms : List MaybeSighting) (later : List Sighting) → P.address ≤ 30 → IsMaybeRecording ms → IsRecording later →
      IsExplainedSomehow P h (MaybeGap b ∷ ms) ↔ (IsExplainedSomehow P h ms ⊎ IsExplainedSomehow P (after_seen P h (gap_on b) (certainly ms ++ later)) ms)
  pub met : (P : Description) (h k : List Event) (ms : List MaybeSighting) → P.address ≤ 30 → IsMaybeRecording ms → HaveMet P h k → IsExplainedSomehow P h ms → IsExplainedSomehow P k ms
  pub quiet : (P : Description) (h : List Event) (e : Event) (c : Bus) (q : Bool) → (q ≡ true → run (past P h) c ≡ []) → is_quiet_after e c q ≡ true → run (past P (e ∷ h)) c ≡ []
  pub fronts : (P : Description) (h : List Event) (front later : List MaybeSighting) → IsExplainedSomehow P h (front ++ later) → IsExplainedSomehow P h front
  pub later : (P : Description) (ms : List MaybeSighting) → P.address ≤ 30 → P.legal (OwnMode mode.shutdown) ≡ true → IsMaybeRecording ms → BeginsAfresh P (certainly ms) →
      ExplainsReading (IsExplainedLater P) ms ↔ ((shut : ShutDown) × IsExplainedSomehow P (shut_history P shut) ms)
  pub afresh : (P : Description) (ms part : List MaybeSighting) → fresh_part P no_gaps ms ≡ Some part →
      BeginsAfresh P (certainly part) × (ExplainsReading (IsExplainedAnyTime P) ms → ExplainsReading (IsExplainedLater P) part)
