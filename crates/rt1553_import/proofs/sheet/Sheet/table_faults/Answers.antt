use Rattle.std.proofs.Common.{[], ◌==◌, length, ap, ◌∙◌}
use Rattle.rt1553_import.specs.TableFaults.{or_others, rows_faults, table_faults}
use Rattle.rt1553_import.proofs.FaultLaws.{or_else_first}
use Rattle.rt1553_import.proofs.sheet.Sheet.table_faults.Goals as goal

pub returns-then-not-is_empty : goal.returns-then-not-is_empty
unfolding table_faults
returns-then-not-is_empty c =
    let s = c.args.self.now in
    let others = rows_faults s [] s.rows.items in
    or_else_first c.in_ok-faults.faults.items others (c.if-not-is_empty.ensures ∙ ap (λ fs. length fs == 0) c.as_slice.ensures.value) ∙ ap (λ fs. or_others fs others) c.in_ok-faults.ensures
