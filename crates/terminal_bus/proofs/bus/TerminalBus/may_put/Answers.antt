use Rattle.std.proofs.Common.{is_none, Option, List, sym, ap, ◌∙◌}
use Rattle.terminal_bus.specs.declared.seat.Seat.{Seat}
use Rattle.terminal_bus.specs.inner.Replying.{places_breach}
use Rattle.terminal_bus.proofs.BreachLaw.{breach_law, allowed_law}
use Rattle.terminal_bus.proofs.bus.TerminalBus.may_put.Goals as goal

pub returns-in-Some-clause-breach : goal.returns-in-Some-clause-breach
returns-in-Some-clause-breach g c members s =
    sym c.in-Some.is ∙ c.breach_of.ensures
    ∙ ap (λ (seats : List (Option (Seat g.row.L.Denot))). places_breach seats c.args.event) c.as_slice.ensures.value
    ∙ breach_law g.L.Legality.is_legal members c.args.self.now.seats.items s c.args.event

pub returns-in-Some-clause-allowed : goal.returns-in-Some-clause-allowed
returns-in-Some-clause-allowed g c members s = ap is_none (returns-in-Some-clause-breach g c members s) ∙ allowed_law members c.args.event

pub returns-in-None-clause-breach : goal.returns-in-None-clause-breach
returns-in-None-clause-breach g c members s =
    sym c.in-None.is ∙ c.breach_of.ensures
    ∙ ap (λ (seats : List (Option (Seat g.row.L.Denot))). places_breach seats c.args.event) c.as_slice.ensures.value
    ∙ breach_law g.L.Legality.is_legal members c.args.self.now.seats.items s c.args.event

pub returns-in-None-clause-allowed : goal.returns-in-None-clause-allowed
returns-in-None-clause-allowed g c members s = ap is_none (returns-in-None-clause-breach g c members s) ∙ allowed_law members c.args.event
