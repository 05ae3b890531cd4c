use Rattle.std.proofs.Common.{take}
use Rattle.recorded_terminal.specs.inner.Steps.{LeftOf}
use Rattle.recorded_terminal.proofs.ways.left_of.Given as goal

abbrev pub invariant-loop-way : goal.invariant-loop-way
invariant-loop-way g l = LeftOf g.L.Legality.is_legal (take l.way-index l.ways) l.left.items
