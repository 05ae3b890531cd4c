use Rattle.std.proofs.Common.{◌≡◌, ◌++◌, ◌-◌}
use Rattle.rt1553_differ.specs.Told.{of_code, told_differences, in_row}
use Rattle.rt1553_differ.proofs.differing.push_codes.Given as goal

abbrev pub invariant-loop-code : goal.invariant-loop-code
invariant-loop-code l = l.list.items ++ told_differences l.p l.q (in_row (of_code l.broadcast) l.code (32 - l.code)) ≡ l.initial.list.items ++ told_differences l.p l.q (in_row (of_code l.broadcast) 0 32)
