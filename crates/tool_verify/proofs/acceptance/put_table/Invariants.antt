use Rattle.rt1553_results.specs.Left.{rows_left}
use Rattle.tool_verify.proofs.acceptance.put_table.Given as goal

abbrev pub decreases-loop-row : goal.decreases-loop-row
decreases-loop-row g l = rows_left l.rows
