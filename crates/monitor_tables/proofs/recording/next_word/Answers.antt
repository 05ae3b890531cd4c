use Rattle.std.proofs.Common.{sym, ◌∙◌}
use Rattle.csv.specs.Records.{fields_of}
use Rattle.monitor_tables.proofs.ReadLaws.{next-told, next-all}
use Rattle.monitor_tables.proofs.recording.next_word.Goals as goal

pub returns-then-not-branch-clause-next : goal.returns-then-not-branch-clause-next
returns-then-not-branch-clause-next g c = next-all _ _ _ c.if-not-branch.true c.in_ok-next.ensures.reads

pub returns-clause-next : goal.returns-clause-next
returns-clause-next g c = (fields_of c.next.new.self.row, c.in_ok-row.ensures, next-told _ _ _ c.if-not-branch.false c.in_ok-next.ensures.reads, (sym c.overlaps.ensures ∙ c.if-overlaps.false, sym c.is_early.ensures ∙ c.if-is_early.false, sym c.has_unclear_order.ensures ∙ c.if-has_unclear_order.false))
