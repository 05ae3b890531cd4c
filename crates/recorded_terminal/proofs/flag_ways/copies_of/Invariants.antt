use Rattle.std.proofs.Common.{take}
use Rattle.recorded_terminal.specs.inner.Steps.{AreCopies}
use Rattle.recorded_terminal.proofs.flag_ways.copies_of.Given as goal

abbrev pub invariant-loop-way : goal.invariant-loop-way
invariant-loop-way g l = AreCopies g.L.Legality.is_legal (take l.way-index l.ways) l.copies.items
