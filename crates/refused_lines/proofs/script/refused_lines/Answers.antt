use Rattle.std.proofs.Common.{◌∙◌, ap, arith}
use Rattle.script_lines.specs.Text.{lines_of}
use Rattle.refused_lines.specs.Refused.{first_of}
use Rattle.refused_lines.proofs.LineLaws.{refused-on, all-told, refused-all, names-from}
use Rattle.refused_lines.proofs.script.refused_lines.Goals as goal

pub loop-rest-preserved : goal.loop-rest-preserved
loop-rest-preserved c = (
  omega (arith, c.loop-rest.invariant.0, c.first_line.ensures.shorter),
  refused-on c.loop-rest.number c.loop-rest.rest.now c.first_line.result.0.now c.first_line.result.1.now _ _ _ (omega (arith, c.if-number.false)) c.first_line.ensures.lines c.in_ok-push_refused.ensures c.loop-rest.invariant.1,
)

pub returns-clause-lines : goal.returns-clause-lines
returns-clause-lines c = refused-all c.loop-rest.number c.loop-rest.rest.now _ _ (grind arith) c.loop-rest.invariant.1

pub returns-clause-run : goal.returns-clause-run
returns-clause-run c =
    ap first_of (refused-all c.loop-rest.number c.loop-rest.rest.now _ _ (grind arith) c.loop-rest.invariant.1) ∙ names-from 0 (lines_of c.args.script.now) (omega arith)

pub returns-then-number-clause-lines : goal.returns-then-number-clause-lines
returns-then-number-clause-lines c =
    all-told c.loop-rest.number c.loop-rest.rest.now c.first_line.result.0.now c.first_line.result.1.now c.loop-rest.found.items c.push.new.self.items c.line_too_many.result _
    c.in_ok-push.ensures.items c.line_too_many.ensures (omega (arith, c.if-number.true)) c.first_line.ensures.lines c.loop-rest.invariant.1

pub returns-then-number-clause-run : goal.returns-then-number-clause-run
returns-then-number-clause-run c =
    ap first_of
    (all-told c.loop-rest.number c.loop-rest.rest.now c.first_line.result.0.now c.first_line.result.1.now c.loop-rest.found.items c.push.new.self.items c.line_too_many.result _
    c.in_ok-push.ensures.items c.line_too_many.ensures (omega (arith, c.if-number.true)) c.first_line.ensures.lines c.loop-rest.invariant.1)
    ∙ names-from 0 (lines_of c.args.script.now) (omega arith)
