use Rattle.std.proofs.Common.{◌≡◌, ◌*◌, ◌-◌, ◌++◌, ◌≤◌, length, drop}
use Rattle.rt1553_tool.specs.Parts.{pieces_of, with_bytes}
use Rattle.rt1553_tool.specs.inner.Parts.{texts}
use Rattle.rt1553_tool.proofs.parts.split_parts.Given as goal

abbrev pub invariant-loop-at : goal.invariant-loop-at
invariant-loop-at l = record {
  few : 2 * length l.parts.items ≤ l.at;
  parts : texts l.parts.items ++ with_bytes (pieces_of (drop l.at l.text)) ≡ with_bytes (pieces_of l.text);
}

abbrev pub decreases-loop-at : goal.decreases-loop-at
decreases-loop-at l = length l.text - l.at
