use Rattle.std.proofs.Common.{◌≡◌, ◌++◌, replicate}
use Rattle.rt1553_expand.proofs.source.push_times.Given as goal

abbrev pub invariant-loop : goal.invariant-loop
invariant-loop l = l.sources.items ≡ l.fn.sources.items ++ replicate l.counter l.number
