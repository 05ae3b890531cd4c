use Rattle.std.proofs.Common.{arith}
use Rattle.rt1553_expand.proofs.GatherLaws.{reads-on, reads-all}
use Rattle.rt1553_expand.proofs.gathering.script_events.Goals as goal

pub loop-rest-preserved : goal.loop-rest-preserved
loop-rest-preserved c = (
  reads-on c.loop-rest.before c.loop-rest.rest.now c.first_line.result.0.now c.first_line.result.1.now c.loop-rest.events.items _ _ _ c.first_line.ensures.lines
      c.if-not-branch.false c.in_ok-push_said.ensures.on c.loop-rest.invariant.0,
  omega (arith, c.in_ok-push_said.ensures.few c.if-not-branch.false),
)

pub returns-clause-some : goal.returns-clause-some
returns-clause-some c = reads-all c.loop-rest.before c.loop-rest.rest.now c.loop-rest.events.items _ (grind arith) c.loop-rest.invariant.0
