use Rattle.std.proofs.Common.{◌≡◌, map, drop}
use Rattle.message_names.specs.NamedCells.{names_place}
use Rattle.message_names.specs.Names.{first_row}
use Rattle.message_names.specs.inner.Rows.{name_row}
use Rattle.message_names.proofs.names.MessageNames.row_of_place.Given as goal

abbrev pub invariant-loop-row : goal.invariant-loop-row
invariant-loop-row l = first_row (names_place l.cell) (map name_row (drop l.row-index l.row-items)) ≡ first_row (names_place l.cell) (map name_row l.row-items)
