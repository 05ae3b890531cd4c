use Rattle.std.proofs.Common.{[], ◌∷◌, ◌++◌, Option, List, refl, ap, sym, subst, ◌∙◌}
use Rattle.bus_legal.specs.Description.{Description}
use Rattle.terminal_bus.specs.declared.seat.Seat.{Seat}
use Rattle.terminal_bus.specs.Members.{member_at}
use Rattle.terminal_bus.specs.AtMembers.{SeatsStandAt}
use Rattle.terminal_bus.proofs.Places.{one_added}
use Rattle.terminal_bus.proofs.bus.TerminalBus.join.Goals as goal

pub returns-clause-joined : goal.returns-clause-joined
returns-clause-joined g c members P h s t =
    subst (λ (seats : List (Option (Seat g.row.L.Denot))). SeatsStandAt g.L.Legality.is_legal (members ++ member_at P h ∷ []) seats) (sym c.push.ensures.items)
    (one_added g.L.Legality.is_legal members c.args.self.now.seats.items _ (member_at P h) s (record { address = sym c.requires ∙ ap (λ (Q : Description). Q.address) t.description; terminal = t }))

pub returns-clause-behind : goal.returns-clause-behind
returns-clause-behind g c = record { seat = _; terminal = refl; seats = c.push.ensures.items }
