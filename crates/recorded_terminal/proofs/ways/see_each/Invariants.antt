use Rattle.recorded_terminal.specs.Ways.{WaySees}
use Rattle.recorded_terminal.proofs.WayLaws.{ChangedBelow}
use Rattle.recorded_terminal.proofs.ways.see_each.Given as goal

abbrev pub invariant-loop-way : goal.invariant-loop-way
invariant-loop-way g l = ChangedBelow (WaySees g.L.Legality.is_legal l.status l.marked) l.way-index l.fn.ways.items l.way-items
