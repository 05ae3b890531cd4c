use Rattle.std.proofs.Common.{◌≡◌, take}
use Rattle.recording_coverage.specs.Places.{total_of}
use Rattle.recording_coverage.proofs.places.total_of.Given as goal

abbrev pub invariant-loop-message : goal.invariant-loop-message
invariant-loop-message l = l.total ≡ total_of (take l.message-index l.messages)
