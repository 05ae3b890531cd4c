use Rattle.std.proofs.Common.{sym, ◌∙◌, inr, arith}
use Rattle.csv.specs.Records.{fields_of}
use Rattle.monitor_tables.proofs.ReadLaws.{next-told, next-all}
use Rattle.monitor_tables.proofs.recording.next_message.Goals as goal

pub returns-then-not-branch-clause-next : goal.returns-then-not-branch-clause-next
returns-then-not-branch-clause-next g c = next-all _ _ _ c.if-not-branch.true c.in_ok-next.ensures.reads

pub returns-clause-next : goal.returns-clause-next
returns-clause-next g c = (
  fields_of c.next.new.self.row,
  c.in_ok-row.ensures,
  next-told _ _ _ c.if-not-branch.false c.in_ok-next.ensures.reads,
  (omega (arith, c.if-row-times.false), sym c.begins_within.ensures ∙ c.if-begins_within.false, sym c.has_unclear_begin.ensures ∙ c.if-has_unclear_begin.false),
  c.in_ok-heard.ensures,
)

pub returns-then-row-times-clause-refused : goal.returns-then-row-times-clause-refused
returns-then-row-times-clause-refused g c =
    inr (next-told _ _ _ c.if-not-branch.false c.in_ok-next.ensures.reads, inr (_, c.in_ok-row.ensures, (c.place.ensures, omega (arith, c.if-row-times.true))))

pub returns-then-begins_within-clause-refused : goal.returns-then-begins_within-clause-refused
returns-then-begins_within-clause-refused g c =
    inr (next-told _ _ _ c.if-not-branch.false c.in_ok-next.ensures.reads, inr (_, c.in_ok-row.ensures, (c.place-then-begins_within.ensures, sym c.begins_within.ensures ∙ c.if-begins_within.true)))

pub returns-then-has_unclear_begin-clause-refused : goal.returns-then-has_unclear_begin-clause-refused
returns-then-has_unclear_begin-clause-refused g c =
    inr (next-told _ _ _ c.if-not-branch.false c.in_ok-next.ensures.reads, inr (_, c.in_ok-row.ensures, (c.place-then-has_unclear_begin.ensures, sym c.has_unclear_begin.ensures ∙ c.if-has_unclear_begin.true)))
