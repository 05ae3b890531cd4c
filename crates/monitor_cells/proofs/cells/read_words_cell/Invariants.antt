use Rattle.std.proofs.Common.{◌≡◌, drop}
use Rattle.monitor_cells.specs.Cells.{words_listed}
use Rattle.monitor_cells.proofs.CellLaws.{behind, left}
use Rattle.monitor_cells.proofs.cells.read_words_cell.Given as goal

abbrev pub invariant-loop-part : goal.invariant-loop-part
invariant-loop-part l = behind l.words.items (left (drop l.part-index l.part-items)) ≡ words_listed l.cell
