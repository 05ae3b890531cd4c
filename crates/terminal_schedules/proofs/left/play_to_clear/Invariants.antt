use Rattle.std.proofs.Common.{List, take}
use Rattle.terminal_bus.specs.Members.{Member, play}
use Rattle.terminal_bus.specs.AtMembers.{BusStandsAt}
use Rattle.terminal_schedules.proofs.left.play_to_clear.Given as goal

abbrev pub invariant-loop-event : goal.invariant-loop-event
invariant-loop-event g l = (members : List Member) → BusStandsAt g.L.Legality.is_legal members l.fn.bus → BusStandsAt g.L.Legality.is_legal (play members (take l.event-index l.message)) l.bus
