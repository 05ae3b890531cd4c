use Rattle.std.proofs.Common.{◌≡◌, ◌+◌, ◌-◌, length, take}
use Rattle.line_format.specs.Reading.{read}
use Rattle.line_format.specs.Views.{spot}
use Rattle.bus_canon.proofs.Steps.{with_front}
use Rattle.rt1553_live.specs.Text.{held_lines}
use Rattle.rt1553_live.proofs.held_lines.held_lines.Given as goal

-- the lines so far, and then those that are left, are all of them
abbrev pub invariant-loop-index : goal.invariant-loop-index
invariant-loop-index l = record {
  left : with_front (take l.index l.found) (read (held_lines (l.index + 1) (30 - l.index)) (spot l.rest)) ≡ read (held_lines 1 30) (spot l.lines);
  whole : length l.found ≡ 30;
}
