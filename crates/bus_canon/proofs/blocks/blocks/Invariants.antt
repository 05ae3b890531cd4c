use Rattle.std.proofs.Common.{◌≡◌, ◌+◌, length, take, drop}
use Rattle.line_format.specs.Reading.{read}
use Rattle.line_format.specs.Views.{spot}
use Rattle.bus_canon.specs.Canon.{blocks}
use Rattle.bus_canon.proofs.Steps.{with_front}
use Rattle.bus_canon.proofs.blocks.blocks.Given as goal

-- the blocks so far, and then those that are left, are all of them
abbrev pub invariant-loop-index : goal.invariant-loop-index
invariant-loop-index l = record {
  left : with_front (take l.index l.found) (read (blocks (l.index + 1) (drop l.index l.masks)) (spot l.rest)) ≡ read (blocks 1 l.masks) (spot l.lines);
  whole : length l.found ≡ 30;
}
