use Rattle.std.proofs.Common.{◌≡◌, ◌++◌, take}
use Rattle.monitor_tables.specs.Messages.{data_heard}
use Rattle.monitor_tables.proofs.messages.push_data.Given as goal

abbrev pub invariant-loop-word : goal.invariant-loop-word
invariant-loop-word l = l.heard.items ≡ l.fn.heard.items ++ data_heard l.is_own l.bus (take l.word-index l.words)
