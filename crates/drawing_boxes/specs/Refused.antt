-- Which events of a script are drawn, and for what a script is refused.
use Rattle.std.specs.Prelude.{ℕ, ◌+◌, nat_lt, if◌then◌else◌, List, [], ◌∷◌, ◌++◌, length, Option, Some, None, Result, Ok, Err}
use Rattle.terminal_rules.specs.declared.event.Event.{Event}
use Rattle.script_lines.specs.declared.line.LineFault.{LineFault}
use Rattle.script_lines.specs.Line.{meaning}
use Rattle.bus_script.specs.declared.fault.RunFault.{RunFault}
use Rattle.bus_script.specs.Reading.{Reading}
use Rattle.drawing_boxes.specs.declared.fault.DrawFault.{DrawFault}
use Rattle.drawing_boxes.specs.declared.fault.DrawFault.TheVariants.{Script, TooMany}
use Rattle.drawing_boxes.specs.declared.numbered.Numbered.{Numbered}

-- the event of line number n that means this, if it is one
abbrev pub event_said : ℕ → Result (Option Event) LineFault → List Numbered
event_said n (Err fault) = []
event_said n (Ok None) = []
event_said n (Ok (Some e)) = record { line = n; event = e } ∷ []

-- the events of lines that follow n lines, each with the number of its line
unfoldable pub events_on : ℕ → List (List ℕ) → List Numbered
events_on n [] = []
events_on n (line ∷ lines) = event_said (n + 1) (meaning line) ++ events_on (n + 1) lines

-- the fault of the script; or, with over 4,096 events, that there are too many
abbrev pub by_fault : Option RunFault → ℕ → Option DrawFault
by_fault (Some fault) n = Some (Script fault)
by_fault None n = if nat_lt 4096 n then Some TooMany else None

-- Why a script that says this isn't drawn: it has a fault, for which a run ends; or else it has over 4,096 events.
abbrev pub refusal : Reading → Option DrawFault
refusal r = by_fault r.fault (length r.events)
