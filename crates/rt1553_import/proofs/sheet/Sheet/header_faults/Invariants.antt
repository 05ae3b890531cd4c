use Rattle.std.proofs.Common.{◌≡◌, ◌++◌, drop}
use Rattle.std.specs.List.{flat_map}
use Rattle.rt1553_import.specs.Columns.{all_columns}
use Rattle.rt1553_import.specs.TableFaults.{fault_if_any, column_fault, header_faults}
use Rattle.rt1553_import.proofs.sheet.Sheet.header_faults.Given as goal

abbrev pub invariant-loop-column : goal.invariant-loop-column
invariant-loop-column l = l.faults.items ++ flat_map (λ c. fault_if_any (column_fault l.self c)) (drop l.column-index all_columns) ≡ header_faults l.self
