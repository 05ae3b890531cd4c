use Rattle.std.proofs.Common.{◌≡◌, ◌++◌, replicate}
use Rattle.terminal_rules.specs.declared.event.Event.TheVariants.{Slot}
use Rattle.rt1553_expand.proofs.writing.push_slots.Given as goal

abbrev pub invariant-loop : goal.invariant-loop
invariant-loop l = l.out.items ≡ l.fn.out.items ++ replicate l.counter Slot
