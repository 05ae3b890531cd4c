use Rattle.std.proofs.Common.{◌≡◌, ◌++◌, take}
use Rattle.rt1553_toml.specs.inner.FullTree.{from_number}
use Rattle.rt1553_export.specs.inner.Rows.{rows_text}
use Rattle.rt1553_export.specs.inner.Full.{receive_row}
use Rattle.rt1553_export.proofs.full.push_receives.Given as goal

abbrev pub invariant-loop-index : goal.invariant-loop-index
invariant-loop-index l = l.text.items ≡ l.fn.text.items ++ rows_text (from_number (receive_row l.to) 1 (take l.index l.masks))
