use Rattle.std.proofs.Common.{◌≡◌, drop}
use Rattle.rt1553_tool.specs.WordLines.{name_bits}
use Rattle.rt1553_tool.specs.inner.Parts.{texts}
use Rattle.rt1553_tool.proofs.word_lines.name_bits.Given as goal

abbrev pub invariant-loop-part : goal.invariant-loop-part
invariant-loop-part l = name_bits (texts l.parts) ≡ name_bits (texts (drop l.part-index l.parts))
