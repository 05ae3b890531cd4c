use Rattle.std.proofs.Common.{◌≡◌, ◌++◌, ◌-◌}
use Rattle.rt1553_differ.specs.Told.{at_place, told_differences, in_row}
use Rattle.rt1553_differ.proofs.differing.push_row.Given as goal

abbrev pub invariant-loop-n : goal.invariant-loop-n
invariant-loop-n l = l.list.items ++ told_differences l.p l.q (in_row (at_place l.kind l.s) l.n (33 - l.n)) ≡ l.initial.list.items ++ told_differences l.p l.q (in_row (at_place l.kind l.s) 1 32)
