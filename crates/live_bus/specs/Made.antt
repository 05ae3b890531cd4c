-- How the terminals of a bus are set up.
use Rattle.std.specs.Prelude.{◌≡◌, ℕ, Some}
use Rattle.bus_legal.specs.Parts.{Parts}
use Rattle.terminal_bus.specs.declared.seat.Seat.{Seat}
use Rattle.terminal_bus.specs.declared.bus.TerminalBus.{TerminalBus}
use Rattle.terminal_bus.specs.AtMembers.{seat_at}
use Rattle.rt1553_live.specs.State.{IsMade}

-- each as its own profile says
abbrev pub EachIsMade : TerminalBus Parts → Type 0
EachIsMade bus = (k : ℕ) (seat : Seat Parts) → seat_at bus.seats.items k ≡ Some seat → IsMade seat.terminal
