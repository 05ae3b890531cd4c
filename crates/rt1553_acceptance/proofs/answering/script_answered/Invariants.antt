use Rattle.std.proofs.Common.{length}
use Rattle.bus_legal.specs.Parts.{description_in}
use Rattle.bus_legal.specs.Tables.{tables_say}
use Rattle.rt1553_acceptance.specs.inner.Answering.{IsLeft}
use Rattle.rt1553_acceptance.proofs.answering.script_answered.Given as goal

abbrev pub invariant-loop-rest : goal.invariant-loop-rest
invariant-loop-rest l = IsLeft (λ normal. tables_say normal.tables) (description_in l.normal) l.terminal l.text.items l.rest l.script

abbrev pub decreases-loop-rest : goal.decreases-loop-rest
decreases-loop-rest l = length l.rest
