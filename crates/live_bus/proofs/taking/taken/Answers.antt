use Rattle.std.proofs.Common.{Option, slice_get, subst}
use Rattle.bus_legal.specs.Parts.{Parts}
use Rattle.bus_legal.specs.Tables.{tables_say}
use Rattle.bus_terminal.specs.declared.terminal.Terminal.{Terminal}
use Rattle.terminal_bus.specs.AtMembers.{IsTerminalAt, seat_at}
use Rattle.live_bus.proofs.MadeLaws.{taken_goes_on}
use Rattle.live_bus.proofs.taking.taken.Goals as goal

pub returns-in-Some : goal.returns-in-Some
returns-in-Some c members s =
    taken_goes_on (seat_at c.args.live.now.bus.seats.items c.args.place) (slice_get members c.args.place) c.in-Some.terminal c.unasked.result c.unasked.ensures.terminal c.unasked.ensures.silent
    (s.each c.args.place)
    (subst (λ (o : Option (Terminal Parts)). IsTerminalAt (λ (normal : Parts). tables_say normal.tables) (seat_at c.args.live.now.bus.seats.items c.args.place) o) c.in-Some.is c.terminal.ensures)
