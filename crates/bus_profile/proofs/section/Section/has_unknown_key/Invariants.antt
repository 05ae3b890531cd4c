use Rattle.std.proofs.Common.{◌≡◌, not, map, string_bytes}
use Rattle.std.specs.List.{list_any}
use Rattle.toml.specs.View.{table_view}
use Rattle.bus_profile.specs.Kinds.{is_known, has_unknown}
use Rattle.bus_profile.proofs.section.Section.has_unknown_key.Given as goal

abbrev pub invariant-loop-name : goal.invariant-loop-name
invariant-loop-name l = list_any (λ name. not (is_known l.keys name)) (map string_bytes l.name-iterator) ≡ has_unknown l.keys (table_view l.self.table.now)
