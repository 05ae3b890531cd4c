use Rattle.std.proofs.Common.{◌≡◌, ◌+◌, length}
use Rattle.tool_buses.proofs.ended.CommandResult.push_told.Given as goal

abbrev pub invariant-loop-told : goal.invariant-loop-told
invariant-loop-told l = length l.reasons.items ≡ length l.fn.reasons.items + l.told-index
