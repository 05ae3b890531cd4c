use Rattle.std.proofs.Common.{◌≡◌, ◌++◌, not, map, string_bytes, filter}
use Rattle.toml.specs.View.{table_view}
use Rattle.bus_profile.specs.Kinds.{is_known}
use Rattle.bus_profile.specs.AllFaults.{unknown_names}
use Rattle.bus_profile.proofs.told.unknown_keys.Given as goal

abbrev pub invariant-loop-name : goal.invariant-loop-name
invariant-loop-name l = map (λ name. name.now) l.names.items ++ filter (λ name. not (is_known l.keys name)) (map string_bytes l.name-iterator) ≡ unknown_names l.fn.part (table_view l.table)
