use Rattle.std.proofs.Common.{◌≡◌, ◌+◌, List, length, filter, take}
use Rattle.tool_buses.specs.EndsWell.{MessageAt, is_unheard_by}
use Rattle.tool_buses.specs.inner.Results.{IsResultOf}
use Rattle.tool_buses.proofs.ended.CommandResult.push_unheard.Given as goal

abbrev pub invariant-loop-normal : goal.invariant-loop-normal
invariant-loop-normal l = (ms : List MessageAt) → IsResultOf ms l.self → length l.reasons.items ≡ length l.fn.reasons.items + length (filter (is_unheard_by l.put ms) (take l.normal-index l.normals))
