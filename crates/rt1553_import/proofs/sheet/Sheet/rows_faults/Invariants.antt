use Rattle.std.proofs.Common.{◌≡◌, ◌++◌, [], take, drop}
use Rattle.rt1553_import.specs.TableFaults.{rows_faults}
use Rattle.rt1553_import.proofs.sheet.Sheet.rows_faults.Given as goal

abbrev pub invariant-loop-at : goal.invariant-loop-at
invariant-loop-at l = l.faults.items ++ rows_faults l.self (take l.at l.self.rows.items) (drop l.at l.self.rows.items) ≡ rows_faults l.self [] l.self.rows.items
