use Rattle.std.proofs.Common.{◌≡◌, ◌+◌, length}
use Rattle.tool_verify.proofs.report.wrong_in_file.Given as goal

abbrev pub invariant-loop-one : goal.invariant-loop-one
invariant-loop-one l = length l.told.items + length l.one-iterator.rest.items ≡ length l.fn.wrong.items
