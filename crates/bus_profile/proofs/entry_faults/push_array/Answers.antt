use Rattle.std.proofs.Common.{◌≡◌, OnOk, subst, ◌∙◌}
use Rattle.toml.specs.View.{table_view}
use Rattle.bus_profile.proofs.PushedFaults.{grown, long_told, short_told}
use Rattle.bus_profile.proofs.entry_faults.push_array.Goals as goal

pub returns-then-values-gt256 : goal.returns-then-values-gt256
returns-then-values-gt256 c =
    c.in_ok-push.ensures.items ∙ grown _ _ _ _ _ c.in_ok-push_some.ensures
    (long_told c.args.kind (table_view c.args.table.now) c.items_in-values.result.now c.key.result c.key-2.result c.key-then-values-gt256.result c.key_fault.result
    c.key.ensures c.key-2.ensures c.key-then-values-gt256.ensures c.key_fault.ensures c.items_in-values.ensures c.if-values-gt256.true)

pub returns : goal.returns
returns c =
    subst (λ fs. OnOk c.push_items.result (c.push_items.new.faults.items ≡ fs))
    (grown _ _ _ _ _ c.in_ok-push_some.ensures
    (short_told c.args.kind (table_view c.args.table.now) c.items_in-values.result.now c.key.result c.key-2.result c.key_fault.result c.key.ensures c.key-2.ensures c.key_fault.ensures c.items_in-values.ensures c.if-values-gt256.false))
    c.push_items.ensures
