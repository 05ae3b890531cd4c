use Rattle.std.proofs.Common.{◌≡◌, All}
use Rattle.rt1553_lint.specs.Findings.{subjects}
use Rattle.rt1553_lint.specs.Standing.{IsPlaced}
use Rattle.rt1553_lint.proofs.positions.with_positions.Given as goal

abbrev pub invariant-loop-finding : goal.invariant-loop-finding
invariant-loop-finding l = record {
  same : subjects l.placed.items ≡ subjects l.yielded;
  placed : All (IsPlaced l.places.text.now) l.placed.items;
}
