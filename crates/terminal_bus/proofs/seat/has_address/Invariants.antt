use Rattle.std.proofs.Common.{◌≡◌, take}
use Rattle.terminal_rules.specs.LookBack.{some}
use Rattle.terminal_bus.specs.inner.Seats.{is_addressed}
use Rattle.terminal_bus.proofs.seat.has_address.Given as goal

-- whether a terminal of the places so far has it
abbrev pub invariant-loop-place : goal.invariant-loop-place
invariant-loop-place g l = l.found ≡ some (is_addressed l.address) (take l.place-index l.places)
