-- The events of a recording that begins after transmitters were shut down.
use Rattle.std.specs.Prelude.{◌≡◌, List, ◌++◌}
use Rattle.bus_legal.specs.Description.{Description}
use Rattle.terminal_rules.specs.declared.event.Event.{Event}
use Rattle.terminal_rules.specs.Same.{AreProper}
use Rattle.terminal_recordings.specs.Recordings.{Sighting, sightings_from}
use Rattle.terminal_recordings.specs.Completion.{shown_from}
use Rattle.terminal_recordings.specs.Later.{ShutDown, shutting, shut_history}

-- They can come, and first shut just these down. What is seen of the others is what is shown of the recording after that.
pub record IsBehaviourAfter (P : Description) (shut : ShutDown) (recording : List Sighting) (events : List Event) : Type 0 where
  pub proper : AreProper events
  pub behaviour : List Event
  pub begins : events ≡ shutting P shut ++ behaviour
  pub shown : sightings_from P (shut_history P shut) behaviour ≡ shown_from P (shut_history P shut) recording
