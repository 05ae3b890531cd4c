use Rattle.std.proofs.Common.{◌≡◌, ◌+◌, ◌++◌, drop}
use Rattle.toml.specs.View.{items_view}
use Rattle.bus_profile.specs.Faults.{each_item}
use Rattle.bus_profile.specs.inner.AllFaults.{failing_parts, checks_of}
use Rattle.bus_profile.proofs.entry_faults.push_items.Given as goal

abbrev pub invariant-loop-index : goal.invariant-loop-index
invariant-loop-index l =
    l.faults.items ++ failing_parts (each_item (checks_of l.kind) (1 + l.index) (items_view (drop l.index l.values))) ≡ l.initial.faults.items ++ failing_parts (each_item (checks_of l.kind) 1 (items_view l.values))
