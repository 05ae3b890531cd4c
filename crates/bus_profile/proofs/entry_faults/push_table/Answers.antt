use Rattle.std.proofs.Common.{◌≡◌, OnOk, subst}
use Rattle.toml.specs.View.{table_view}
use Rattle.bus_profile.proofs.PushedFaults.{next, grown, rule_told, mode_told, initial_told}
use Rattle.bus_profile.proofs.entry_faults.push_table.Goals as goal

pub returns-in-Rule : goal.returns-in-Rule
returns-in-Rule c =
    subst (λ fs. OnOk c.push_keys.result (c.push_keys.new.faults.items ≡ fs))
    (grown _ _ _ _ _ c.in_ok-push_some.ensures (rule_told c.args.kind c.args.number c.part.result c.unknown_fault.result (table_view c.args.table.now) c.in-Rule.is c.part.ensures c.unknown_fault.ensures))
    c.push_keys.ensures

pub returns-in-Mode : goal.returns-in-Mode
returns-in-Mode c =
    subst (λ fs. OnOk c.push_keys-in-Mode.result (c.push_keys-in-Mode.new.faults.items ≡ fs))
    (grown _ _ _ _ _ c.in_ok-push_some.ensures (mode_told c.args.kind c.args.number c.part.result c.unknown_fault.result (table_view c.args.table.now) c.in-Mode.is c.part.ensures c.unknown_fault.ensures))
    c.push_keys-in-Mode.ensures

pub returns-in_ok-push_keys-in-Initial : goal.returns-in_ok-push_keys-in-Initial
returns-in_ok-push_keys-in-Initial c =
    subst (λ fs. OnOk c.push_words.result (c.push_words.new.faults.items ≡ fs))
    (grown _ _ _ _ _ (next _ _ _ _ _ c.in_ok-push_some.ensures c.in_ok-push_keys-in-Initial.ensures)
    (initial_told c.args.kind c.args.number c.part.result c.unknown_fault.result (table_view c.args.table.now) c.in-Initial.is c.part.ensures c.unknown_fault.ensures))
    c.push_words.ensures
