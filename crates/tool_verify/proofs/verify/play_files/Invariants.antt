use Rattle.std.proofs.Common.{◌≤◌}
use Rattle.tool_verify.proofs.verify.play_files.Given as goal

abbrev pub invariant-loop-name : goal.invariant-loop-name
invariant-loop-name g l = l.status ≤ 4
