use Rattle.std.proofs.Common.{string_bytes, subst, IfOk}
use Rattle.std.specs.Prelude.{Result, Ok, Err}
use Rattle.rt1553_export.specs.Table.{IsTableOf}
use Rattle.rt1553_export.proofs.TableLaws.{table_imports, table_canonical}
use Rattle.rt1553_export.proofs.exporting.export_table.Goals as goal
use Rattle.rt1553_export.proofs.exporting.export_table.Goals.{Then-branch}

if_ok : {A E : Type 0} (r : Result A E) (P Q : A → Type 0) → ((x : A) → P x → Q x) → IfOk r P → IfOk r Q
if_ok (Ok x) P Q h p = h x p
if_ok (Err e) P Q h p = tt

is_table : (c : Then-branch) → IsTableOf (string_bytes c.in-Ok.text) c.args.normal.now
is_table c = subst (λ t. IsTableOf t c.args.normal.now) c.as_str.ensures.value (c.in_ok-reads_back.ensures c.if-branch.true)

pub returns-then-branch-clause-table : goal.returns-then-branch-clause-table
returns-then-branch-clause-table c = is_table c

pub returns-then-branch-clause-imported : goal.returns-then-branch-clause-imported
returns-then-branch-clause-imported c = table_imports (string_bytes c.in-Ok.text) c.args.normal.now (is_table c)

pub returns-then-branch-clause-canonical : goal.returns-then-branch-clause-canonical
returns-then-branch-clause-canonical c = table_canonical (string_bytes c.in-Ok.text) c.args.normal.now (is_table c)

pub returns-clause-imported : goal.returns-clause-imported
returns-clause-imported c = if_ok c.full_table_of.result _ _ (λ text is. table_imports (string_bytes text) c.args.normal.now is) c.full_table_of.ensures

pub returns-clause-canonical : goal.returns-clause-canonical
returns-clause-canonical c = if_ok c.full_table_of.result _ _ (λ text is. table_canonical (string_bytes text) c.args.normal.now is) c.full_table_of.ensures
