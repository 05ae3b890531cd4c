use Rattle.std.proofs.Common.{◌≡◌, List, map, take}
use Rattle.recording_coverage.specs.declared.outcome.MessageEnd.{MessageEnd}
use Rattle.recording_coverage.specs.Covers.{Covers}
use Rattle.recording_coverage.specs.Rows.{covered_in}
use Rattle.recording_coverage.proofs.rows.covered_messages.Given as goal

abbrev pub invariant-loop-cell : goal.invariant-loop-cell
invariant-loop-cell l = (ends : List MessageEnd) → Covers ends l.coverage → l.rows.items ≡ map (covered_in ends) (take l.cell-index l.cell-items)
