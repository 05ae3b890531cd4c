use Rattle.std.proofs.Common.{◌≤◌, length}
use Rattle.tool_scripts.proofs.messages.play_rows.Given as goal

abbrev pub invariant-loop-rest : goal.invariant-loop-rest
invariant-loop-rest g l = l.lines ≤ 1048576

abbrev pub decreases-loop-rest : goal.decreases-loop-rest
decreases-loop-rest g l = length l.rest
