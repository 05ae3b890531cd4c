-- What a script says to a bus of terminals, and what in it breaks the discipline of a controller.
use Rattle.std.specs.Prelude.{ℕ, ◌+◌, Bool, nat_lt, if◌then◌else◌, List, [], ◌∷◌, ◌++◌, map, Option, Some, None, Result, Ok, Err}
use Rattle.terminal_rules.specs.LookBack.{some}
use Rattle.terminal_bus.specs.declared.event.BusEvent.{BusEvent}
use Rattle.terminal_bus.specs.declared.event.BusEvent.TheVariants.{OnBus, SlotPasses, Subsystem}
use Rattle.terminal_bus.specs.declared.discipline.Breach.{Breach}
use Rattle.terminal_bus.specs.Members.{Member, bus_after}
use Rattle.terminal_bus.specs.Discipline.{has_address}
use Rattle.terminal_bus.specs.Breaches.{breach}
use Rattle.script_terminals.specs.declared.line.BusLineFault.{BusLineFault}
use Rattle.script_terminals.specs.declared.line.BusLineFault.TheVariants.{NoTerminal}
use Rattle.script_terminals.specs.declared.playing.BusScriptFault.{BusScriptFault}
use Rattle.script_terminals.specs.declared.playing.BusScriptFault.TheVariants.{Line, TooLong}
use Rattle.script_terminals.specs.declared.playing.BusWarning.{BusWarning}
use Rattle.script_terminals.specs.BusLine.{bus_line_meaning}

-- a terminal of the bus has this address
abbrev pub is_on_bus : List Member → ℕ → Bool
is_on_bus members a = some (has_address a) members

-- an event of a subsystem is one of a terminal that is there
abbrev pub to_terminal : (ℕ → Bool) → Result (Option BusEvent) BusLineFault → Result (Option BusEvent) BusLineFault
to_terminal there (Ok (Some (Subsystem a e))) = if there a then Ok (Some (Subsystem a e)) else Err (NoTerminal a)
to_terminal there said = said

abbrev pub in_line : ℕ → Result (Option BusEvent) BusLineFault → Result (Option BusEvent) BusScriptFault
in_line n (Ok x) = Ok x
in_line n (Err f) = Err (Line n f)

-- what the line of this number, from 1, says: line 1,048,577 is one too many
abbrev pub said_in : (ℕ → Bool) → ℕ → List ℕ → Result (Option BusEvent) BusScriptFault
said_in there n line = if nat_lt 1048576 n then Err TooLong else in_line n (to_terminal there (bus_line_meaning line))

-- what happens, and the number of the line that says it
pub record Said : Type 0 where
  pub line : ℕ
  pub event : BusEvent

-- what is said before the first fault, and that fault
pub record BusReading : Type 0 where
  pub said : List Said
  pub fault : Option BusScriptFault

abbrev pub adds_said : List Said → BusReading → BusReading
adds_said said r = record { said = said ++ r.said; fault = r.fault }

abbrev pub then_says : ℕ → Result (Option BusEvent) BusScriptFault → BusReading → BusReading
then_says n (Err f) r = record { said = []; fault = Some f }
then_says n (Ok None) r = r
then_says n (Ok (Some x)) r = adds_said (record { line = n; event = x } ∷ []) r

-- what lines say, of which the first has number n
unfoldable pub bus_reading : (ℕ → Bool) → ℕ → List (List ℕ) → BusReading
bus_reading there n [] = record { said = []; fault = None }
bus_reading there n (line ∷ lines) = then_says n (said_in there n line) (bus_reading there (n + 1) lines)

-- what happens
abbrev pub said_events : List Said → List BusEvent
said_events said = map (λ s. s.event) said

-- what an event that the controller puts breaks
abbrev pub breach_of : List Member → BusEvent → Option Breach
breach_of members (OnBus e) = breach members e
breach_of members SlotPasses = None
breach_of members (Subsystem a e) = None

abbrev pub warned : ℕ → Option Breach → List BusWarning
warned n None = []
warned n (Some b) = record { line = n; breach = b } ∷ []

-- what in a script breaks the discipline
unfoldable pub warnings : List Member → List Said → List BusWarning
warnings members [] = []
warnings members (s ∷ said) = warned s.line (breach_of members s.event) ++ warnings (bus_after members s.event) said
