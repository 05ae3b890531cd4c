use Rattle.std.proofs.Common.{arith}
use Rattle.rt1553_acceptance.proofs.AnswerLaws.{no-lines}
use Rattle.rt1553_acceptance.proofs.answering.count_lines.Goals as goal

pub returns : goal.returns
returns c = omega (arith, c.loop-rest.invariant.1, no-lines c.loop-rest.rest.now (grind arith))
