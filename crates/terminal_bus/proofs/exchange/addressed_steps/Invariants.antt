use Rattle.terminal_bus.specs.inner.Seats.{StepsIfAddressed, EachBelow}
use Rattle.terminal_bus.proofs.exchange.addressed_steps.Given as goal

abbrev pub invariant-loop-place : goal.invariant-loop-place
invariant-loop-place g l = EachBelow (StepsIfAddressed g.L.Legality.is_legal l.address l.event) l.place-index l.fn.places l.places
