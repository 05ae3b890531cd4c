use Rattle.bus_legal.specs.Parts.{description_in}
use Rattle.rt1553_results.specs.Left.{rows_left}
use Rattle.rt1553_results.proofs.AskedLaws.{SoFarAsked}
use Rattle.rt1553_results.proofs.asked.commands_of.Given as goal

abbrev pub invariant-loop-row : goal.invariant-loop-row
invariant-loop-row l = SoFarAsked (description_in l.normal) l.rows l.commands.items

abbrev pub decreases-loop-row : goal.decreases-loop-row
decreases-loop-row l = rows_left l.rows
