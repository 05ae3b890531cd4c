use Rattle.terminal_bus.specs.inner.Seats.{SeatSteps, EachBelow}
use Rattle.terminal_bus.proofs.exchange.each_steps.Given as goal

abbrev pub invariant-loop-place : goal.invariant-loop-place
invariant-loop-place g l = EachBelow (SeatSteps g.L.Legality.is_legal l.event) l.place-index l.fn.places l.places
