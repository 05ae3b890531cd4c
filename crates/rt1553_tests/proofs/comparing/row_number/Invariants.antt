use Rattle.rt1553_results.specs.Left.{rows_left}
use Rattle.rt1553_tests.proofs.comparing.row_number.Given as goal

abbrev pub decreases-loop-row : goal.decreases-loop-row
decreases-loop-row l = rows_left l.rows
