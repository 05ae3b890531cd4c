use Rattle.std.proofs.Common.{◌≡◌, map, take}
use Rattle.rt1553_import.specs.Places.{placed_fault}
use Rattle.rt1553_import.proofs.sheet.Sheet.placed_faults.Given as goal

abbrev pub invariant-loop-fault : goal.invariant-loop-fault
invariant-loop-fault l = l.placed.items ≡ map (placed_fault l.self) (take l.fault-index l.fault-items)
