use Rattle.std.proofs.Common.{None, replicate}
use Rattle.rt1553_results.specs.inner.Placed.{Sees, placed_slots}
use Rattle.rt1553_results.proofs.watching.see_silence.Given as goal

abbrev pub invariant-loop-more : goal.invariant-loop-more
invariant-loop-more l = Sees (placed_slots l.first.number l.first.command l.first.slot (replicate l.more None)) l.initial.watch l.watch
