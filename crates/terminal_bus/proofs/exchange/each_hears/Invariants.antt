use Rattle.std.proofs.Common.{[], ◌∷◌}
use Rattle.terminal_bus.specs.inner.Seats.{Hears, EachBelow}
use Rattle.terminal_bus.proofs.exchange.each_hears.Given as goal

abbrev pub invariant-loop-place : goal.invariant-loop-place
invariant-loop-place g l = EachBelow (Hears g.L.Legality.is_legal l.bus (l.event ∷ [])) l.place-index l.fn.places l.places
