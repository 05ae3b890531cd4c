use Rattle.rt1553_expand.proofs.PlacingLaws.{count_up_to-on}
use Rattle.rt1553_expand.proofs.placing.count_up_to.Goals as goal

pub loop-i-preserved : goal.loop-i-preserved
loop-i-preserved c = count_up_to-on c.args.hand c.args.events.now c.loop-i.i _ _ c.loop-i-test.true c.loop-i.invariant c.rest_from.ensures c.can_have.ensures c.if-can_have.false
