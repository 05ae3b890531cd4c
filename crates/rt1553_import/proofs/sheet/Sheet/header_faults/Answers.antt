use Rattle.std.proofs.Common.{ap}
use Rattle.rt1553_import.specs.Columns.{all_columns}
use Rattle.rt1553_import.specs.TableFaults.{fault_if_any, column_fault}
use Rattle.rt1553_import.proofs.FaultLaws.{told_step, flat_step}
use Rattle.rt1553_import.proofs.sheet.Sheet.header_faults.Goals as goal

pub loop-column-preserved : goal.loop-column-preserved
loop-column-preserved c =
    told_step _ _ _ _ _ _ c.in_ok-push_some.ensures
    (flat_step (λ k. fault_if_any (column_fault c.args.self.now k)) all_columns c.loop-column.column-index _ _ c.loop-column-test.true (ap fault_if_any c.column_fault.ensures))
    c.loop-column.invariant
