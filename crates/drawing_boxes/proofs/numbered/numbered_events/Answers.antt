use Rattle.std.proofs.Common.{arith}
use Rattle.std.proofs.lemmas.Result.{err_from_is_err_and}
use Rattle.drawing_boxes.proofs.NumberedLaws.{numbered-on, reading-on, reading-stops, reading-many, reading-long, numbered-all, reading-all}
use Rattle.drawing_boxes.proofs.numbered.numbered_events.Goals as goal

pub returns-then-lines-clause-refused : goal.returns-then-lines-clause-refused
returns-then-lines-clause-refused c other =
    reading-many c.loop-rest.lines c.loop-rest.rest.now c.first_line.result.0.now c.first_line.result.1.now c.loop-rest.read.items _
    (omega (arith, c.if-lines.true)) c.first_line.ensures.lines c.loop-rest.invariant.events

pub returns-then-line-gt-MAX_LINE-clause-refused : goal.returns-then-line-gt-MAX_LINE-clause-refused
returns-then-line-gt-MAX_LINE-clause-refused c other =
    let i = c.loop-rest.invariant in
    reading-long c.loop-rest.lines c.loop-rest.rest.now c.first_line.result.0.now c.first_line.result.1.now c.loop-rest.read.items _
    (omega (arith, i.few, c.if-lines.false)) (omega (arith, c.if-line-gt-MAX_LINE.true)) c.first_line.ensures.lines i.events

pub returns-in_err-read_line-clause-refused : goal.returns-in_err-read_line-clause-refused
returns-in_err-read_line-clause-refused c =
    let i = c.loop-rest.invariant in
    let r = c.from_residual in
    let p = err_from_is_err_and r.result r.ensures.1 in
    rw (p.1, p.2) (λ other. let refused = c.in_err-read_line.ensures.refused other in
    rw refused.0 (reading-stops c.loop-rest.lines c.loop-rest.rest.now c.first_line.result.0.now c.first_line.result.1.now c.loop-rest.read.items _
    (omega (arith, i.few, c.if-lines.false)) (omega (arith, c.if-line-gt-MAX_LINE.false)) c.first_line.ensures.lines refused.1 i.events))

pub loop-rest-preserved : goal.loop-rest-preserved
loop-rest-preserved c =
    let i = c.loop-rest.invariant in
    let e = c.in_ok-read_line.ensures in record {
      few = omega (arith, i.few, c.if-lines.false);
      numbered = numbered-on c.loop-rest.lines c.loop-rest.rest.now c.first_line.result.0.now c.first_line.result.1.now c.loop-rest.read.items _ _
          c.first_line.ensures.lines e.said i.numbered;
      events = reading-on c.loop-rest.lines c.loop-rest.rest.now c.first_line.result.0.now c.first_line.result.1.now c.loop-rest.read.items _ _
          (omega (arith, i.few, c.if-lines.false)) (omega (arith, c.if-line-gt-MAX_LINE.false)) c.first_line.ensures.lines e.means e.said i.events;
    }

pub returns-clause-numbered : goal.returns-clause-numbered
returns-clause-numbered c = numbered-all c.loop-rest.lines c.loop-rest.rest.now c.loop-rest.read.items _ (grind arith) c.loop-rest.invariant.numbered

pub returns-clause-events : goal.returns-clause-events
returns-clause-events c = reading-all c.loop-rest.lines c.loop-rest.rest.now c.loop-rest.read.items _ (grind arith) c.loop-rest.invariant.events
