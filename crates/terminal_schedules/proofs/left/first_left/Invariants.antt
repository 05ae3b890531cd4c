use Rattle.std.proofs.Common.{◌≡◌, List, drop}
use Rattle.terminal_bus.specs.Members.{Member}
use Rattle.terminal_bus.specs.AtMembers.{BusStandsAt}
use Rattle.terminal_schedules.specs.Left.{first_left}
use Rattle.terminal_schedules.proofs.left.first_left.Given as goal

abbrev pub invariant-loop-place : goal.invariant-loop-place
invariant-loop-place g l = (members : List Member) → BusStandsAt g.L.Legality.is_legal members l.bus → first_left (drop l.place members) ≡ first_left members
