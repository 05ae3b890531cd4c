use Rattle.std.proofs.Common.{◌≡◌, ◌++◌, ◌-◌, map, filter}
use Rattle.std.specs.List.{range_with_len}
use Rattle.bus_legal.specs.Parts.{description_in}
use Rattle.recording_coverage.specs.Messages.{mode_at}
use Rattle.recording_coverage.proofs.legal.push_codes.Given as goal

abbrev pub invariant-codes : goal.invariant-codes
invariant-codes l =
    l.cells.items ++ filter (description_in l.normal).legal (map (mode_at l.broadcast) (range_with_len l.code (32 - l.code))) ≡ l.initial.cells.items ++ filter (description_in l.normal).legal (map (mode_at l.broadcast) (range_with_len 0 32))
