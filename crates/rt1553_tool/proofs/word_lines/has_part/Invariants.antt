use Rattle.std.proofs.Common.{◌≡◌, drop}
use Rattle.rt1553_tool.specs.WordLines.{has_part}
use Rattle.rt1553_tool.specs.inner.Parts.{texts}
use Rattle.rt1553_tool.proofs.word_lines.has_part.Given as goal

abbrev pub invariant-loop-part : goal.invariant-loop-part
invariant-loop-part l = has_part l.word (texts l.parts) ≡ has_part l.word (texts (drop l.part-index l.parts))
