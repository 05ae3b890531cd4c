use Rattle.std.proofs.Common.{Some, map, take}
use Rattle.rt1553_results.specs.Recorded.{words_replied}
use Rattle.rt1553_results.specs.inner.Placed.{Sees, placed_slots}
use Rattle.rt1553_results.proofs.watching.see_words.Given as goal

abbrev pub invariant-loop-number : goal.invariant-loop-number
invariant-loop-number l = Sees (placed_slots l.exchange.number l.exchange.command 0 (map Some (words_replied (take l.number l.reply)))) l.initial.watch l.watch
