use Rattle.std.proofs.Common.{◌≡◌, ◌++◌, ◌-◌}
use Rattle.rt1553_differ.specs.Told.{at_place, told_differences, in_rows}
use Rattle.rt1553_differ.proofs.differing.push_rows.Given as goal

abbrev pub invariant-loop-s : goal.invariant-loop-s
invariant-loop-s l = l.list.items ++ told_differences l.p l.q (in_rows (at_place l.kind) l.s (31 - l.s)) ≡ l.initial.list.items ++ told_differences l.p l.q (in_rows (at_place l.kind) 1 30)
