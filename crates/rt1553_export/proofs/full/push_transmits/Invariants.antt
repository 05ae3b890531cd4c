use Rattle.std.proofs.Common.{◌≡◌, ◌++◌, take}
use Rattle.std.specs.List.{zip}
use Rattle.rt1553_toml.specs.inner.FullTree.{from_number}
use Rattle.rt1553_export.specs.inner.Rows.{rows_text}
use Rattle.rt1553_export.specs.inner.Full.{transmit_row}
use Rattle.rt1553_export.proofs.full.push_transmits.Given as goal

abbrev pub invariant-loop-index : goal.invariant-loop-index
invariant-loop-index l = l.text.items ≡ l.fn.text.items ++ rows_text (from_number transmit_row 1 (take l.index (zip l.masks l.words)))
