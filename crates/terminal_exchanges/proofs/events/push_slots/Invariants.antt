use Rattle.std.proofs.Common.{◌≡◌, ◌+◌, ◌++◌, [], length}
use Rattle.terminal_exchanges.specs.Exchanges.{slots_then}
use Rattle.terminal_exchanges.proofs.events.push_slots.Given as goal

-- as many slots are in the script as have been counted
abbrev pub invariant-loop-slot : goal.invariant-loop-slot
invariant-loop-slot l = record {
  items : l.script.items ≡ l.fn.script.items ++ slots_then l._slot [];
  long : length l.script.items ≡ length l.fn.script.items + l._slot;
}
