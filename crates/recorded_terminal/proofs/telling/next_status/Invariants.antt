use Rattle.std.proofs.Common.{◌≡◌, drop}
use Rattle.terminal_recordings.specs.Completion.{next_status}
use Rattle.recorded_terminal.specs.Sightings.{recorded}
use Rattle.recorded_terminal.proofs.telling.next_status.Given as goal

abbrev pub invariant-loop-sighting : goal.invariant-loop-sighting
invariant-loop-sighting l = next_status (recorded l.later) ≡ next_status (recorded (drop l.sighting-index l.later))
