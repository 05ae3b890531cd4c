use Rattle.std.proofs.Common.{◌≡◌, map, filter, take}
use Rattle.toml.specs.View.{view}
use Rattle.rt1553_import.specs.Tree.{is_entry, entry_data}
use Rattle.rt1553_import.proofs.sheet.Sheet.entries_of.Given as goal

abbrev pub invariant-loop-row : goal.invariant-loop-row
invariant-loop-row l = map view l.values.items ≡ map (entry_data l.self l.entry) (filter (is_entry l.self l.entry) (take l.row-index l.row-items))
