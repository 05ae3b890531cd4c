use Rattle.bus_word.specs.Mode.{required_codes}
use Rattle.bus_profile.proofs.PushedFaults.{told_step, code_step}
use Rattle.bus_profile.proofs.told.push_code_faults.Goals as goal

pub loop-code-preserved : goal.loop-code-preserved
loop-code-preserved c =
    told_step _ _ _ _ _ _ c.in_ok-push_where.ensures
    (code_step c.args.modes.now required_codes c.loop-code.code-index _ c.is_own_code_legal-legal.result c.loop-code-test.true c.is_own_code_legal-legal.ensures)
    c.loop-code.invariant
