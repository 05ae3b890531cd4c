use Rattle.std.proofs.Common.{[], ◌∷◌, ◌++◌, Option, List, sym, subst}
use Rattle.bus_legal.specs.Description.{described}
use Rattle.terminal_bus.specs.declared.seat.Seat.{Seat}
use Rattle.terminal_bus.specs.Members.{member_of}
use Rattle.terminal_bus.specs.AtMembers.{SeatsStandAt}
use Rattle.terminal_bus.proofs.Places.{one_added}
use Rattle.terminal_bus.proofs.bus.TerminalBus.add.Goals as goal

pub returns-clause-added : goal.returns-clause-added
returns-clause-added g c members s =
    let P = described c.args.setup (g.L.Legality.is_legal c.args.legality) in
    subst (λ (seats : List (Option (Seat g.row.L.Denot))). SeatsStandAt g.L.Legality.is_legal (members ++ member_of P ∷ []) seats) (sym c.push.ensures.items)
    (one_added g.L.Legality.is_legal members c.args.self.now.seats.items c.power_up.result (member_of P) s c.power_up.ensures)
