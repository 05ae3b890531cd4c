use Rattle.std.proofs.Common.{◌≡◌, length, take}
use Rattle.terminal_bus.specs.AtMembers.{EachSeat}
use Rattle.terminal_bus.specs.inner.Seats.{Stays}
use Rattle.terminal_bus.proofs.bus.TerminalBus.copy.Given as goal

abbrev pub invariant-loop-place : goal.invariant-loop-place
invariant-loop-place g l = (length l.seats.items ≡ l.place-index) × EachSeat (Stays g.L.Legality.is_legal) (take l.place-index l.places) l.seats.items
