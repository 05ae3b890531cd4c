use Rattle.std.proofs.Common.{◌≤◌, string_bytes}
use Rattle.rt1553_toml.proofs.TableLaws.{SoFar}
use Rattle.rt1553_toml.proofs.sets.set_text.Given as goal

abbrev pub invariant-loop-left : goal.invariant-loop-left
invariant-loop-left l = record {
  within : l.left ≤ 32;
  first : l.first ≤ 1;
  so_far : SoFar l.first l.numbers l.left l.started (string_bytes l.text);
}

abbrev pub decreases-loop-left : goal.decreases-loop-left
decreases-loop-left l = l.left
