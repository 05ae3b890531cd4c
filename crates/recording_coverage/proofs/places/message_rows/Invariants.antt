use Rattle.std.proofs.Common.{◌≡◌, ◌++◌, map, length}
use Rattle.recording_coverage.specs.Places.{rows_in}
use Rattle.recording_coverage.specs.declared.places.CoverageRow.{CoverageRow}
use Rattle.recording_coverage.proofs.places.message_rows.Given as goal

abbrev pub invariant-rows : goal.invariant-rows
invariant-rows l = map (λ (row : CoverageRow). row.messages.now) l.rows.items ++ rows_in l.left ≡ rows_in l.fn.messages

abbrev pub decreases-rows : goal.decreases-rows
decreases-rows l = length l.left
