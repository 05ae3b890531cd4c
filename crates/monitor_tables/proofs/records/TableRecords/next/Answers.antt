use Rattle.std.proofs.Common.{sym, ◌∙◌}
use Rattle.monitor_tables.proofs.ReadLaws.{nothing-told, told-joined, told-all, one-told, one-untold, one-all}
use Rattle.monitor_tables.proofs.records.TableRecords.next.Goals as goal

pub records-init : goal.records-init
records-init g c = nothing-told _

pub records-preserved : goal.records-preserved
records-preserved g c = told-joined c.records.invariant (one-untold _ _ _ c.if-not-branch.false (sym c.is_some_record.ensures ∙ c.if-is_some_record.false) c.in_ok-read.ensures.reads)

pub returns-then-not-branch-clause-reads : goal.returns-then-not-branch-clause-reads
returns-then-not-branch-clause-reads g c = told-all c.records.invariant (one-all _ _ _ c.if-not-branch.true c.in_ok-read.ensures.reads)

pub returns-then-is_some_record-clause-reads : goal.returns-then-is_some_record-clause-reads
returns-then-is_some_record-clause-reads g c = (sym c.is_some_record.ensures ∙ c.if-is_some_record.true, told-joined c.records.invariant (one-told _ _ _ c.if-not-branch.false (sym c.is_some_record.ensures ∙ c.if-is_some_record.true) c.in_ok-read.ensures.reads))
