use Rattle.std.proofs.Common.{◌≡◌, drop}
use Rattle.rt1553_import.specs.Cells.{cell_words}
use Rattle.rt1553_import.proofs.CellLaws.{behind, left}
use Rattle.rt1553_import.proofs.cells.cell_words.Given as goal

abbrev pub invariant-loop-part : goal.invariant-loop-part
invariant-loop-part l = behind l.words.items (left (drop l.part-index l.part-items)) ≡ cell_words l.text
