use Rattle.bus_legal.specs.Parts.{description_in}
use Rattle.rt1553_results.specs.Left.{rows_left}
use Rattle.rt1553_results.specs.Results.{answer}
use Rattle.rt1553_results.proofs.CompareLaws.{SoFar}
use Rattle.rt1553_results.proofs.comparing.tell.Given as goal

abbrev pub invariant-loop-row : goal.invariant-loop-row
invariant-loop-row l = SoFar (description_in l.normal) (answer l.results) l.rows l.comparison

abbrev pub decreases-loop-row : goal.decreases-loop-row
decreases-loop-row l = rows_left l.rows
