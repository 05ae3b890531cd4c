use Rattle.std.proofs.Common.{◌≤◌, length}
use Rattle.rt1553_expand.proofs.column.part_place.Given as goal

abbrev pub invariant-loop : goal.invariant-loop
invariant-loop l = l.at ≤ length l.text
