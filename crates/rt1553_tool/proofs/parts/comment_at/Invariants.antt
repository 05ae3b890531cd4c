use Rattle.std.proofs.Common.{◌≡◌, ◌+◌, ◌-◌, ◌≤◌, length, drop}
use Rattle.rt1553_tool.specs.inner.Parts.{comment_at}
use Rattle.rt1553_tool.proofs.parts.comment_at.Given as goal

abbrev pub invariant-loop-len : goal.invariant-loop-len
invariant-loop-len l = record {
  within : l.len ≤ length l.line;
  value : comment_at l.line ≡ l.len + comment_at (drop l.len l.line);
}

abbrev pub decreases-loop-len : goal.decreases-loop-len
decreases-loop-len l = length l.line - l.len
