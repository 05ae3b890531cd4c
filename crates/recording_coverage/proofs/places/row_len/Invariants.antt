use Rattle.std.proofs.Common.{◌≤◌}
use Rattle.recording_coverage.specs.declared.rows.CoveredMessage.{CoveredMessage}
use Rattle.recording_coverage.proofs.PlaceLaws.{RowSoFar}
use Rattle.recording_coverage.proofs.places.row_len.Given as goal

abbrev pub invariant-loop-index : goal.invariant-loop-index
invariant-loop-index l = (d : CoveredMessage) → (1 ≤ l.index) × RowSoFar l.messages l.index d
