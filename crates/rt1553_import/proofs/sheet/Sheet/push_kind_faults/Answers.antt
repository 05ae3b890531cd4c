use Rattle.std.proofs.Common.{ap}
use Rattle.rt1553_import.specs.Columns.{all_columns}
use Rattle.rt1553_import.specs.TableFaults.{fault_if_any, cell_fault}
use Rattle.rt1553_import.proofs.FaultLaws.{told_step, flat_step}
use Rattle.rt1553_import.proofs.sheet.Sheet.push_kind_faults.Goals as goal

pub loop-column-preserved : goal.loop-column-preserved
loop-column-preserved c =
    told_step _ _ _ _ _ _ c.in_ok-push_some.ensures
    (flat_step (λ k. fault_if_any (cell_fault c.args.self.now c.args.before.now c.args.row.now c.args.kind k)) all_columns c.loop-column.column-index _ _ c.loop-column-test.true (ap fault_if_any c.in_ok-cell_fault.ensures))
    c.loop-column.invariant
