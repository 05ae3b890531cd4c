-- Sightings as the definitions of recordings have them.
use Rattle.std.specs.Prelude.{List, map}
use Rattle.terminal_recordings.specs.Recordings.{Sighting}
use Rattle.recorded_terminal.specs.declared.sighting.Sighting.{Sighting as Seen}
use Rattle.recorded_terminal.specs.SentWords.{word_shown}

abbrev pub shown_sighting : Seen → Sighting
shown_sighting s = record { event = s.event; sent = word_shown s.sent }

-- the recording that a list of sightings is
abbrev pub recorded : List Seen → List Sighting
recorded xs = map shown_sighting xs
