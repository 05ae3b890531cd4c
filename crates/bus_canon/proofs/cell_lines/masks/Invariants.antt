use Rattle.std.proofs.Common.{◌≡◌, ◌+◌, ◌-◌, length, take}
use Rattle.line_format.specs.Reading.{read}
use Rattle.line_format.specs.Views.{spot}
use Rattle.bus_canon.specs.Canon.{masks}
use Rattle.bus_canon.proofs.Steps.{with_front}
use Rattle.bus_canon.proofs.cell_lines.masks.Given as goal

-- the masks so far, and then those that are left, are all of them
abbrev pub invariant-loop-index : goal.invariant-loop-index
invariant-loop-index l = record {
  left : with_front (take l.index l.found) (read (masks l.name (l.index + 1) (30 - l.index)) (spot l.rest)) ≡ read (masks l.name 1 30) (spot l.lines);
  whole : length l.found ≡ 30;
}
