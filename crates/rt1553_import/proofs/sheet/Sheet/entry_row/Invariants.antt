use Rattle.std.proofs.Common.{◌≡◌, drop, filter, slice_get}
use Rattle.rt1553_import.specs.Tree.{is_entry}
use Rattle.rt1553_import.specs.Places.{entry_row}
use Rattle.rt1553_import.proofs.sheet.Sheet.entry_row.Given as goal

abbrev pub invariant-loop-row : goal.invariant-loop-row
invariant-loop-row l = slice_get (filter (is_entry l.self l.entry) (drop l.row-index l.row-items)) l.left ≡ entry_row l.self l.entry l.number
