use Rattle.std.proofs.Common.{take}
use Rattle.recorded_terminal.specs.inner.Steps.{Splits}
use Rattle.recorded_terminal.proofs.ways.split.Given as goal

abbrev pub invariant-loop-way : goal.invariant-loop-way
invariant-loop-way g l = Splits g.L.Legality.is_legal l.bus l.status (take l.way-index l.ways) l.all.items
