use Rattle.std.proofs.Common.{◌≤◌}
use Rattle.rt1553_differ.proofs.table.words_in.Given as goal

abbrev pub invariant-loop-index : goal.invariant-loop-index
invariant-loop-index l = l.len ≤ 32
