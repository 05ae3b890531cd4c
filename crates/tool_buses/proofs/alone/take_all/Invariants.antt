use Rattle.std.proofs.Common.{◌++◌, List, map, take}
use Rattle.tool_buses.specs.EndsWell.{MessageAt}
use Rattle.tool_buses.specs.inner.Results.{message_of_terminal, AreResultsAt}
use Rattle.tool_buses.proofs.alone.take_all.Given as goal

abbrev pub invariant-loop-message : goal.invariant-loop-message
invariant-loop-message l = (ms : List MessageAt) → AreResultsAt l.put ms l.fn.result_of → AreResultsAt l.put (ms ++ map (message_of_terminal l.address) (take l.message-index l.messages)) l.result_of
