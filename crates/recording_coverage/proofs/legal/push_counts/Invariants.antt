use Rattle.std.proofs.Common.{◌≡◌, ◌++◌, ◌-◌, map, filter}
use Rattle.std.specs.List.{range_with_len}
use Rattle.bus_legal.specs.Parts.{description_in}
use Rattle.recording_coverage.specs.Messages.{cell_at}
use Rattle.recording_coverage.proofs.legal.push_counts.Given as goal

abbrev pub invariant-counts : goal.invariant-counts
invariant-counts l =
    l.cells.items ++ filter (description_in l.normal).legal (map (cell_at l.kind l.s) (range_with_len l.n (33 - l.n))) ≡ l.initial.cells.items ++ filter (description_in l.normal).legal (map (cell_at l.kind l.s) (range_with_len 1 32))
