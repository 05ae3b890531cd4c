use Rattle.std.proofs.Common.{◌≡◌, ◌≤◌, map, take}
use Rattle.rt1553_expand.specs.inner.Found.{bits_heard}
use Rattle.rt1553_expand.proofs.finding.first_bits.Given as goal

abbrev pub invariant-loop-event : goal.invariant-loop-event
invariant-loop-event l = (l.words.items ≡ map bits_heard (take l.event-index l.events)) × (l.event-index ≤ l.most)
