use Rattle.std.proofs.Common.{◌≡◌, OnOk, subst}
use Rattle.toml.specs.View.{table_view}
use Rattle.bus_profile.proofs.PushedFaults.{next, grown, tree_told}
use Rattle.bus_profile.proofs.told.push_tree.Goals as goal

pub returns : goal.returns
returns c =
    subst (λ fs. OnOk c.push_array-3.result (c.push_array-3.new.faults.items ≡ fs))
    (grown _ _ _ _ _ (next _ _ _ _ _ (next _ _ _ _ _ (next _ _ _ _ _ c.in_ok-push_some.ensures c.in_ok-push_keys.ensures) c.in_ok-push_array.ensures) c.in_ok-push_array-2.ensures)
    (tree_told (table_view c.args.table.now) c.unknown_fault.result c.unknown_fault.ensures))
    c.push_array-3.ensures
