-- What a monitor on both buses sees of one terminal from power-up, and when a description explains it. What the subsystem does
-- is not seen, nor is what is handed over to it.
use Rattle.std.specs.Prelude.{◌≡◌, ◌<◌, ◌^◌, Bool, true, false, if◌then◌else◌, Option, Some, None, List, [], ◌∷◌}
use Rattle.bus_legal.specs.Description.{Description}
use Rattle.terminal_rules.specs.declared.event.Event.{Event}
use Rattle.terminal_rules.specs.declared.event.Event.TheVariants.{Word, Noise, Gap, Slot}
use Rattle.terminal_rules.specs.Out.{Out, Sending, sent_in, out}
use Rattle.terminal_rules.specs.Same.{IsProper, AreProper}

-- what is seen at one time: an event on a bus, or a slot, and the word that the terminal sends in it, if it sends one
pub record Sighting : Type 0 where
  pub event : Event
  pub sent : Option Sending

-- words, noise, gaps and slots are seen, and no event of the subsystem is
abbrev pub is_seen : Event → Bool
is_seen (Word b w) = true
is_seen (Noise b) = true
is_seen (Gap b) = true
is_seen Slot = true
is_seen _ = false

-- what the subsystem does
abbrev pub AreUnseen : List Event → Type 0
AreUnseen [] = Unit {0}
AreUnseen (e ∷ es) = (is_seen e ≡ false) × AreUnseen es

-- an event with its answer, before what is seen later
abbrev pub seen_then : Event → Out → List Sighting → List Sighting
seen_then e o rest = if is_seen e then record { event = e; sent = sent_in o } ∷ rest else rest

-- what is seen of events in order, after a history
abbrev pub sightings_from : Description → List Event → List Event → List Sighting
sightings_from P h [] = []
sightings_from P h (e ∷ es) = seen_then e (out P h e) (sightings_from P (e ∷ h) es)

-- from power-up
abbrev pub sightings : Description → List Event → List Sighting
sightings P es = sightings_from P [] es

-- A description explains a recording that begins after a history if some behaviour of the subsystem makes its terminal do what was
-- seen: there are events that can come, of which just this is seen.
abbrev pub IsExplainedAfter : Description → List Event → List Sighting → Type 0
IsExplainedAfter P h recording = (es : List Event) × AreProper es × (sightings_from P h es ≡ recording)

-- and one that begins at power-up
abbrev pub IsExplained : Description → List Sighting → Type 0
IsExplained P recording = IsExplainedAfter P [] recording

abbrev pub HasBits : Option Sending → Type 0
HasBits None = Unit {0}
HasBits (Some s) = s.bits < 2 ^ 16

-- a sighting that can be: the event is one that is seen and can come, and a word that is sent has 16 bits
pub record IsSighting (s : Sighting) : Type 0 where
  pub seen : is_seen s.event ≡ true
  pub proper : IsProper s.event
  pub bits : HasBits s.sent

abbrev pub IsRecording : List Sighting → Type 0
IsRecording [] = Unit {0}
IsRecording (s ∷ recording) = IsSighting s × IsRecording recording
