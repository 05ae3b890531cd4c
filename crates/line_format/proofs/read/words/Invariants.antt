use Rattle.std.proofs.Common.{◌≡◌, ◌-◌, ◌≤◌, length, take, replicate}
use Rattle.line_format.specs.Reading.{fields_at}
use Rattle.line_format.specs.Shapes.{word}
use Rattle.line_format.proofs.Steps.{fields_front}
use Rattle.line_format.proofs.read.words.Given as goal

-- the words so far, and then those that are left, are all of them
abbrev pub invariant-loop-index : goal.invariant-loop-index
invariant-loop-index l = record {
  left : fields_front (take l.index l.to) (fields_at (replicate (l.index-end - l.index) word) l.rest) ≡ fields_at (replicate l.index-end word) l.bytes;
  whole : length l.to ≡ l.index-end;
  same : l.index-end ≡ length l.fn.to;
  shorter : length l.rest ≤ length l.bytes;
}
