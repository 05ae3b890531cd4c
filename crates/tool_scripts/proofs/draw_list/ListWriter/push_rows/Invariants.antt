use Rattle.std.proofs.Common.{length}
use Rattle.tool_scripts.proofs.draw_list.ListWriter.push_rows.Given as goal

abbrev pub decreases-loop-rest : goal.decreases-loop-rest
decreases-loop-rest l = length l.rest
