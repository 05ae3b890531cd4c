use Rattle.std.proofs.Common.{◌≡◌, ◌++◌, ◌-◌, flat_map, filter}
use Rattle.std.specs.List.{range_with_len}
use Rattle.bus_legal.specs.Parts.{description_in}
use Rattle.recording_coverage.specs.Messages.{cells_at}
use Rattle.recording_coverage.proofs.legal.push_kind.Given as goal

abbrev pub invariant-subaddresses : goal.invariant-subaddresses
invariant-subaddresses l =
    l.cells.items ++ filter (description_in l.normal).legal (flat_map (cells_at l.kind) (range_with_len l.s (31 - l.s))) ≡ l.initial.cells.items ++ filter (description_in l.normal).legal (flat_map (cells_at l.kind) (range_with_len 1 30))
