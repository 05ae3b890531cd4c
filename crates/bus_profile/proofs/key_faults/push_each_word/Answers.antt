use Rattle.bus_profile.proofs.PushedFaults.{told_step, word_step}
use Rattle.bus_profile.proofs.key_faults.push_each_word.Goals as goal

pub loop-value-preserved : goal.loop-value-preserved
loop-value-preserved c =
    told_step _ _ _ _ _ _ c.in_ok-push_some.ensures
    (word_step c.args.part c.args.values.now c.loop-value.value-index c.value-item.result c.word_fault.result c.loop-value-test.true c.value-item.is c.word_fault.ensures)
    c.loop-value.invariant
