use Rattle.std.proofs.Common.{◌≡◌, ◌+◌, ◌-◌, ◌≤◌, length, drop}
use Rattle.rt1553_tool.specs.inner.Parts.{piece_len}
use Rattle.rt1553_tool.proofs.parts.piece_len.Given as goal

abbrev pub invariant-loop-len : goal.invariant-loop-len
invariant-loop-len l = record {
  within : l.len ≤ length l.text;
  value : piece_len l.text ≡ l.len + piece_len (drop l.len l.text);
}

abbrev pub decreases-loop-len : goal.decreases-loop-len
decreases-loop-len l = length l.text - l.len
