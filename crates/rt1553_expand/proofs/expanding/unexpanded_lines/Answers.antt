use Rattle.std.proofs.Common.{arith}
use Rattle.rt1553_expand.proofs.ExpandLaws.{refusals-on, refusals-all}
use Rattle.rt1553_expand.proofs.expanding.unexpanded_lines.Goals as goal

pub loop-rest-preserved : goal.loop-rest-preserved
loop-rest-preserved c = (
  omega (arith, c.loop-rest.invariant.0, c.first_line.ensures.shorter),
  refusals-on c.args.own.now c.loop-rest.number c.loop-rest.rest.now c.first_line.result.0.now c.first_line.result.1.now _ _ _ c.first_line.ensures.lines c.in_ok-push_refused.ensures c.loop-rest.invariant.1,
)

pub returns : goal.returns
returns c = refusals-all c.args.own.now c.loop-rest.number c.loop-rest.rest.now _ _ (grind arith) c.loop-rest.invariant.1
