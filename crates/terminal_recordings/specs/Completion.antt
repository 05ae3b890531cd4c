-- Whether a description explains a recording, decided: the recording itself tells what the subsystem did, as far as it is seen.
use Rattle.std.specs.Prelude.{◌≡◌, ℕ, ◌≤◌, ◌/◌, ◌%◌, Bool, false, ◌==◌, if◌then◌else◌, ◌↔◌, Option, Some, None, List, [], ◌∷◌, ◌++◌, take}
use Rattle.bus_word.specs.declared.cell.Cell.{Cell}
use Rattle.bus_word.specs.declared.cell.Cell.TheVariants.{OwnTransmit, OwnMode}
use Rattle.bus_word.specs.Word.{is_command_sync}
use Rattle.bus_word.specs.Cell.{is_data_place}
use Rattle.bus_word.specs.Mode as mode
use Rattle.bus_legal.specs.Description.{Description}
use Rattle.terminal_rules.specs.declared.event.Event.{Event}
use Rattle.terminal_rules.specs.declared.event.Event.TheVariants.{Write, Vector, Bit, Flag as FlagIs}
use Rattle.terminal_rules.specs.declared.event.Flag.{Flag}
use Rattle.terminal_rules.specs.declared.event.Flag.TheVariants.{Service, Busy, Subsystem, Terminal}
use Rattle.terminal_rules.specs.History.{Replying}
use Rattle.terminal_rules.specs.Reply.{reply_now}
use Rattle.terminal_rules.specs.Past.{past, history_after}
use Rattle.terminal_rules.specs.Out.{Sending}
use Rattle.terminal_recordings.specs.Recordings.{Sighting, sightings_from, IsExplainedAfter, IsRecording}

-- a status word that was sent: it has command sync
abbrev pub status_sent : Option Sending → Option ℕ
status_sent None = None
status_sent (Some s) = if is_command_sync s.kind then Some s.bits else None

-- a data word that was sent
abbrev pub data_sent : Option Sending → Option ℕ
data_sent None = None
data_sent (Some s) = if is_command_sync s.kind then None else Some s.bits

-- the next status word that is seen
abbrev pub next_status : List Sighting → Option ℕ
next_status [] = None
next_status (s ∷ recording) = elim (status_sent s.sent) [ None ↦ next_status recording | Some bits ↦ Some bits ]

-- the bit of a status word that shows a flag (MIL-STD-1553B, 4.3.3.5.3)
abbrev pub flag_bit : Flag → ℕ → Bool
flag_bit Service bits = bits / 256 % 2 == 1
flag_bit Busy bits = bits / 8 % 2 == 1
flag_bit Subsystem bits = bits / 4 % 2 == 1
flag_bit Terminal bits = bits % 2 == 1

-- a flag as a status word shows it, off where there is none
abbrev pub flag_shown : Option ℕ → Flag → Bool
flag_shown None f = false
flag_shown (Some bits) f = flag_bit f bits

-- the subsystem sets its flags as a status word shows them
abbrev pub flags_set : Option ℕ → List Event
flags_set status =
    FlagIs Service (flag_shown status Service)
    ∷ FlagIs Busy (flag_shown status Busy)
    ∷ FlagIs Subsystem (flag_shown status Subsystem)
    ∷ FlagIs Terminal (flag_shown status Terminal)
    ∷ []

-- the subsystem gives data word number m of a reply, by the cell of what was done
abbrev pub word_set : Option Cell → ℕ → ℕ → List Event
word_set (Some (OwnTransmit s n)) m v = if is_data_place s m then Write (record { subaddress = s; number = m }) v ∷ [] else []
word_set (Some (OwnMode code)) m v = if code == mode.vector_word then Vector v ∷ [] else if code == mode.bit_word then Bit v ∷ [] else []
word_set _ m v = []

-- the subsystem gives the word that is sent next, where that is a data word which is its own
abbrev pub next_set : Option Replying → Option ℕ → List Event
next_set (Some r) (Some v) = word_set r.cell r.number v
next_set _ _ = []

-- what the subsystem does just before a sighting: its flags become those of the next status word that is seen, and where a
-- data word is seen, that is what it gives
abbrev pub told_before : Description → List Event → Sighting → List Sighting → List Event
told_before P h s later = flags_set (next_status (s ∷ later)) ++ next_set (reply_now (past P h)) (data_sent s.sent)

-- The events that a recording tells, after a history: those that are seen, and just before each what the subsystem does.
abbrev pub completion_from : Description → List Event → List Sighting → List Event
completion_from P h [] = []
completion_from P h (s ∷ later) =
    told_before P h s later ++ s.event ∷ completion_from P (s.event ∷ history_after (told_before P h s later) h) later

-- what is then seen of the terminal, after a history, and from power-up
abbrev pub shown_from : Description → List Event → List Sighting → List Sighting
shown_from P h recording = sightings_from P h (completion_from P h recording)

abbrev pub shown_of : Description → List Sighting → List Sighting
shown_of P recording = shown_from P [] recording

-- Some behaviour of the subsystem explains a recording exactly if the one that the recording tells itself does. The same holds of
-- each front of it: the first n sightings are explained exactly if the first n that are shown are just these. And what explains
-- more explains less. So the first sighting that isn't shown is the first that nothing explains. This holds after every history.
pub record RecordingLaw : Type 0 where
  pub decided : (P : Description) (h : List Event) (recording : List Sighting) → P.address ≤ 30 → IsRecording recording →
      IsExplainedAfter P h recording ↔ (shown_from P h recording ≡ recording)
  pub first : (P : Description) (h : List Event) (recording : List Sighting) (n : ℕ) → P.address ≤ 30 → IsRecording recording →
      IsExplainedAfter P h (take n recording) ↔ (take n (shown_from P h recording) ≡ take n recording)
  pub fronts : (P : Description) (h : List Event) (front later : List Sighting) → IsExplainedAfter P h (front ++ later) → IsExplainedAfter P h front
