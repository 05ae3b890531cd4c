use Rattle.std.proofs.Common.{◌≡◌, ◌++◌, drop}
use Rattle.rt1553_differ.specs.inner.Alone.{singles}
use Rattle.rt1553_differ.proofs.groups.push_singles.Given as goal

abbrev pub invariant-loop-difference : goal.invariant-loop-difference
invariant-loop-difference l = l.groups.items ++ singles l.p l.behind (drop l.difference-index l.found) ≡ l.initial.groups.items ++ singles l.p l.behind l.found
