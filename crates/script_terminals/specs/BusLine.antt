-- What a line of a script for a bus of terminals says.
use Rattle.std.specs.Prelude.{ℕ, ◌==◌, nat_lt, if◌then◌else◌, List, ◌∷◌, length, drop, Option, Some, None, Result, Ok, Err}
use Rattle.terminal_rules.specs.declared.event.Event.{Event}
use Rattle.terminal_rules.specs.declared.event.Event.TheVariants.{Slot}
use Rattle.script_lines.specs.declared.line.LineFault.{LineFault}
use Rattle.script_lines.specs.Digits.{number_of}
use Rattle.script_lines.specs.Line.{meaning}
use Rattle.terminal_bus.specs.declared.event.BusEvent.{BusEvent}
use Rattle.terminal_bus.specs.declared.event.BusEvent.TheVariants.{OnBus, SlotPasses, Subsystem}
use Rattle.terminal_bus.specs.Discipline.{comes_from_subsystem}
use Rattle.script_terminals.specs.declared.line.BusLineFault.{BusLineFault}
use Rattle.script_terminals.specs.declared.line.BusLineFault.TheVariants.{Long, NoLine, NoAddress, NotOfSubsystem, HighAddress}

-- the address in front of a line: two decimal digits and a space
abbrev pub address_first : List ℕ → Option ℕ
address_first (tens ∷ ones ∷ s ∷ rest) = if s == 32 then number_of tens ones else None
address_first _ = None

-- what the controller says: its slots, and what it puts on a bus
abbrev pub put_by_controller : Event → BusEvent
put_by_controller Slot = SlotPasses
put_by_controller e = OnBus e

-- an event without an address in front
abbrev pub of_controller : Event → Result BusEvent BusLineFault
of_controller e = if comes_from_subsystem e then Err NoAddress else Ok (put_by_controller e)

-- an event with this address in front
abbrev pub of_subsystem : ℕ → Event → Result BusEvent BusLineFault
of_subsystem a e =
    if comes_from_subsystem e then (if nat_lt 30 a then Err (HighAddress a) else Ok (Subsystem a e)) else Err NotOfSubsystem

abbrev pub or_fault : Result BusEvent BusLineFault → Result (Option BusEvent) BusLineFault
or_fault (Ok x) = Ok (Some x)
or_fault (Err f) = Err f

-- what a line says, by the address in front and by what the line behind it says to one terminal
abbrev pub bus_event : Option ℕ → Result (Option Event) LineFault → Result (Option BusEvent) BusLineFault
bus_event a (Err f) = Err NoLine
bus_event None (Ok None) = Ok None
bus_event None (Ok (Some e)) = or_fault (of_controller e)
bus_event (Some a) (Ok None) = Err NotOfSubsystem
bus_event (Some a) (Ok (Some e)) = or_fault (of_subsystem a e)

-- a line has at most 64 bytes, as that for one terminal
abbrev pub checked : Option ℕ → List ℕ → Result (Option BusEvent) BusLineFault
checked a line = if nat_lt 64 (length line) then Err Long else bus_event a (meaning line)

abbrev pub behind : Option ℕ → List ℕ → List ℕ
behind None line = line
behind (Some a) line = drop 3 line

-- what a line says: nothing, what happens on the bus, or why it is refused
abbrev pub bus_line_meaning : List ℕ → Result (Option BusEvent) BusLineFault
bus_line_meaning line = checked (address_first line) (behind (address_first line) line)
