use Rattle.std.proofs.Common.{◌∙◌, slice_get}
use Rattle.terminal_bus.specs.AtMembers.{seat_at}
use Rattle.terminal_schedules.specs.Left.{left_there}
use Rattle.terminal_schedules.proofs.BusLaw.{terminal_there, address_there}
use Rattle.terminal_schedules.proofs.left.left_at.Goals as goal

pub returns-in-Some-terminal : goal.returns-in-Some-terminal
returns-in-Some-terminal g c members m stands at =
    let is_legal = g.L.Legality.is_legal in
    let there = terminal_there is_legal m (seat_at c.args.bus.now.seats.items c.args.place) (slice_get members c.args.place) c.in-Some-terminal.terminal at (stands.each c.args.place) c.in-Some-terminal.ensures in
    c.left_there.ensures
    ∙ (λ j. left_there (address_there members c.args.place c.in-Some.it.address m at (c.in-Some.ensures.address members stands) j) (c.left_behind.ensures m.description m.history there j))
