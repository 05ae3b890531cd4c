-- Which lines of a text of events and messages are refused on a bus, and why.
use Rattle.std.specs.Prelude.{ℕ, ◌+◌, List, [], ◌∷◌, ◌++◌, Option, Some, None, Result, Ok, Err}
use Rattle.terminal_bus.specs.declared.event.BusEvent.{BusEvent}
use Rattle.script_lines.specs.Text.{lines_of}
use Rattle.script_terminals.specs.declared.line.BusLineFault.{BusLineFault}
use Rattle.script_terminals.specs.BusLine.{bus_line_meaning}
use Rattle.script_terminals.specs.BusReading.{to_terminal}
use Rattle.rt1553_expand.specs.declared.fault.ExpandFault.{ExpandFault}
use Rattle.rt1553_expand.specs.declared.on_bus.OnBusFault.{OnBusFault}
use Rattle.rt1553_expand.specs.declared.on_bus.OnBusFault.TheVariants.{Unexpanded, Event}
use Rattle.rt1553_expand.specs.declared.on_bus.RefusedOnBus.{RefusedOnBus}
use Rattle.rt1553_expand.specs.declared.script_for.ScriptFor.{ScriptFor}
use Rattle.rt1553_expand.specs.Own.{plays}
use Rattle.rt1553_expand.specs.Expansion.{Expansion, Stays, Gives, expansion_of}

-- why a run on the bus refuses what a line says
abbrev pub event_fault : Result (Option BusEvent) BusLineFault → Option OnBusFault
event_fault (Ok said) = None
event_fault (Err fault) = Some (Event fault)

-- A line is refused that is not expanded. One that stays is refused where a run refuses it on a bus of these terminals, and a message is not.
abbrev pub fault_on_bus : ScriptFor → List ℕ → Result Expansion ExpandFault → Option OnBusFault
fault_on_bus own line (Err fault) = Some (Unexpanded fault)
fault_on_bus own line (Ok (Stays kept said)) = event_fault (to_terminal (plays own) (bus_line_meaning line))
fault_on_bus own line (Ok (Gives es)) = None

-- a line that is refused on a bus, by its number, and why
pub record BusRefusal : Type 0 where
  pub line : ℕ
  pub text : List ℕ
  pub fault : OnBusFault

-- the line of this number, if it is refused
abbrev pub bus_refusal_at : ℕ → List ℕ → Option OnBusFault → List BusRefusal
bus_refusal_at n line None = []
bus_refusal_at n line (Some fault) = record { line = n; text = line; fault = fault } ∷ []

-- the lines that are refused, of which the first has number n
unfoldable pub bus_refusals_from : ScriptFor → ℕ → List (List ℕ) → List BusRefusal
bus_refusals_from own n [] = []
bus_refusals_from own n (line ∷ lines) = bus_refusal_at n line (fault_on_bus own line (expansion_of own line)) ++ bus_refusals_from own (n + 1) lines

-- those of a text
abbrev pub bus_refusals_in : ScriptFor → List ℕ → List BusRefusal
bus_refusals_in own text = bus_refusals_from own 1 (lines_of text)

-- a line that is returned as refused
abbrev pub bus_refusal_of : RefusedOnBus → BusRefusal
bus_refusal_of it = record { line = it.line; text = it.text.now; fault = it.fault }
