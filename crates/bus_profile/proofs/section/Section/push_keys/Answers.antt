use Rattle.toml.specs.View.{table_view}
use Rattle.bus_profile.proofs.PushedFaults.{told_step, key_step}
use Rattle.bus_profile.proofs.section.Section.push_keys.Goals as goal

pub loop-key-preserved : goal.loop-key-preserved
loop-key-preserved c =
    told_step _ _ _ _ _ _ c.in_ok-push_some.ensures
    (key_step c.args.self.now.part (table_view c.args.self.now.table.now) c.args.keys.now c.loop-key.key-index _ c.key_fault.result c.loop-key-test.true c.key_fault.ensures)
    c.loop-key.invariant
