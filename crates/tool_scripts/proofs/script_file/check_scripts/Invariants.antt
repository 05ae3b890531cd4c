use Rattle.std.proofs.Common.{◌≤◌}
use Rattle.tool_scripts.proofs.script_file.check_scripts.Given as goal

abbrev pub invariant-loop-name : goal.invariant-loop-name
invariant-loop-name g l = l.status ≤ 4
