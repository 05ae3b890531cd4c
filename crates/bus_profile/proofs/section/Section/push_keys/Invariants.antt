use Rattle.std.proofs.Common.{◌≡◌, ◌++◌, drop}
use Rattle.toml.specs.View.{table_view}
use Rattle.bus_profile.specs.inner.AllFaults.{keys_told}
use Rattle.bus_profile.proofs.section.Section.push_keys.Given as goal

abbrev pub invariant-loop-key : goal.invariant-loop-key
invariant-loop-key l = l.faults.items ++ keys_told l.self.part (table_view l.self.table.now) (drop l.key-index l.keys) ≡ l.initial.faults.items ++ keys_told l.self.part (table_view l.self.table.now) l.keys
