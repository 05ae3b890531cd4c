use Rattle.std.proofs.Common.{◌≡◌, ◌++◌, take}
use Rattle.rt1553_expand.specs.Events.{data_events}
use Rattle.rt1553_expand.proofs.writing.push_data.Given as goal

abbrev pub invariant-loop-word : goal.invariant-loop-word
invariant-loop-word l = l.out.items ≡ l.fn.out.items ++ data_events l.bus (take l.word-index l.words)
