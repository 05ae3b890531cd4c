use Rattle.rt1553_lint.proofs.Told.{subjects_step}
use Rattle.rt1553_lint.proofs.errors.push_faults.Goals as goal

pub loop-fault-preserved : goal.loop-fault-preserved
loop-fault-preserved c =
    subjects_step _ _ _ c.args.faults.now c.loop-fault.fault-index _ _ c.loop-fault-test.true c.in_ok-push.ensures.items c.in_ok-finding_of.ensures.fault c.in_ok-finding_of.ensures.spare c.loop-fault.invariant
