use Rattle.std.proofs.Common.{◌∙◌, [], ◌∷◌, Ok, sym, ap, append-nil, arith}
use Rattle.rt1553_expand.proofs.GatherLaws.{reads-too_many, reads-too_long, reads-refused, reads-event, reads-none}
use Rattle.rt1553_expand.proofs.gathering.push_said.Goals as goal

pub returns-then-before-ge-MAX_LINES-clause-on : goal.returns-then-before-ge-MAX_LINES-clause-on
returns-then-before-ge-MAX_LINES-clause-on c = λ lines. reads-too_many c.args.before c.args.line.now lines (omega (arith, c.if-before-ge-MAX_LINES.true))

pub returns-then-line-gt-MAX_LINE-clause-on : goal.returns-then-line-gt-MAX_LINE-clause-on
returns-then-line-gt-MAX_LINE-clause-on c = λ lines. reads-too_long c.args.before c.args.line.now lines (omega (arith, c.if-before-ge-MAX_LINES.false)) (omega (arith, c.if-line-gt-MAX_LINE.true))

pub returns-in-Err-clause-on : goal.returns-in-Err-clause-on
returns-in-Err-clause-on c = λ lines.
    reads-refused c.args.before c.args.line.now lines c.in-Err.field-0 (omega (arith, c.if-before-ge-MAX_LINES.false)) (omega (arith, c.if-line-gt-MAX_LINE.false)) (sym c.in-Err.ensures)

pub returns-in_ok-push-in-Ok-Some-clause-on : goal.returns-in_ok-push-in-Ok-Some-clause-on
returns-in_ok-push-in-Ok-Some-clause-on c = (
  c.in-Ok-Some.event ∷ [],
  c.in_ok-push-in-Ok-Some.ensures.items,
  λ lines. reads-event c.args.before c.args.line.now lines c.in-Ok-Some.event (omega (arith, c.if-before-ge-MAX_LINES.false)) (omega (arith, c.if-line-gt-MAX_LINE.false)) (sym c.in-Ok-Some.ensures ∙ ap Ok c.in-Ok-Some.field-0-is),
)

pub returns-in-Ok-None-clause-on : goal.returns-in-Ok-None-clause-on
returns-in-Ok-None-clause-on c = (
  [],
  sym (append-nil c.args.events.now.items),
  λ lines. reads-none c.args.before c.args.line.now lines (omega (arith, c.if-before-ge-MAX_LINES.false)) (omega (arith, c.if-line-gt-MAX_LINE.false)) (sym c.in-Ok-None.ensures ∙ ap Ok c.in-Ok-None.field-0-is),
)
