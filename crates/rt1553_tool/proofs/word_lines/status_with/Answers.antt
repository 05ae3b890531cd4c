use Rattle.std.proofs.Common.{refl}
use Rattle.rt1553_tool.proofs.word_lines.status_with.Goals as goal

pub returns-clause-value : goal.returns-clause-value
returns-clause-value c = rw (c.has_part.ensures, c.has_part-2.ensures, c.has_part-3.ensures, c.bit_named.ensures.value, c.bit_named-2.ensures.value, c.bit_named-3.ensures.value, c.has_part-4.ensures, c.has_part-5.ensures, c.has_part-6.ensures, c.has_part-7.ensures, c.has_part-8.ensures) refl
