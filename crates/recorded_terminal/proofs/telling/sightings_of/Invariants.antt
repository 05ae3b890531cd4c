use Rattle.std.proofs.Common.{◌≡◌, take}
use Rattle.recorded_terminal.specs.Sightings.{recorded}
use Rattle.recorded_terminal.specs.Marks.{seen_in}
use Rattle.recorded_terminal.proofs.telling.sightings_of.Given as goal

abbrev pub invariant-marked : goal.invariant-marked
invariant-marked l = recorded l.sightings.items ≡ seen_in (take l.marked-index l.recording)
