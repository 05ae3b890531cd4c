use Rattle.std.proofs.Common.{arith}
use Rattle.refused_lines.proofs.LineLaws.{mistyped-on, mistyped-all}
use Rattle.refused_lines.proofs.script.mistyped_answers.Goals as goal

pub loop-rest-preserved : goal.loop-rest-preserved
loop-rest-preserved c = (
  omega (arith, c.loop-rest.invariant.0, c.first_line.ensures.shorter),
  mistyped-on c.loop-rest.number c.loop-rest.rest.now c.first_line.result.0.now c.first_line.result.1.now _ _ _ c.first_line.ensures.lines c.in_ok-push_mistyped.ensures c.loop-rest.invariant.1,
)

pub returns : goal.returns
returns c = mistyped-all c.loop-rest.number c.loop-rest.rest.now _ _ (grind arith) c.loop-rest.invariant.1
