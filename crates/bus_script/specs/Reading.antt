-- What a script says.
use Rattle.std.specs.Prelude.{ℕ, ◌+◌, nat_le, nat_lt, if◌then◌else◌, List, [], ◌∷◌, ◌++◌, length, Option, Some, None, Result, Ok, Err}
use Rattle.terminal_rules.specs.declared.event.Event.{Event}
use Rattle.script_lines.specs.declared.line.LineFault.{LineFault}
use Rattle.script_lines.specs.Line.{meaning}
use Rattle.bus_script.specs.declared.fault.RunFault.{RunFault}
use Rattle.bus_script.specs.declared.fault.RunFault.TheVariants.{Line, LongLine, TooLong, Read, Write}

-- the events before the first fault, and that fault
pub record Reading : Type 0 where
  pub events : List Event
  pub fault : Option RunFault

-- nothing more is said, and there is no fault
abbrev pub nothing : Reading
nothing = record { events = []; fault = None }

-- these events first
abbrev pub adds : List Event → Reading → Reading
adds es r = record { events = es ++ r.events; fault = r.fault }

-- no event is said any more, for this fault
abbrev pub stops : RunFault → Reading
stops f = record { events = []; fault = Some f }

-- a line that means this, after n lines, and then what the others say
abbrev pub then_reads : Result (Option Event) LineFault → ℕ → Reading → Reading
then_reads (Err _) n r = stops (Line (n + 1))
then_reads (Ok None) n r = r
then_reads (Ok (Some e)) n r = adds (e ∷ []) r

-- What lines say that follow n lines: of line 1,048,577 that there are too many; of a line of over 64
-- bytes that it is too long; of any other what it means.
unfoldable pub reading : ℕ → List (List ℕ) → Reading
reading n [] = nothing
reading n (line ∷ lines) =
    if nat_le 1048576 n then stops TooLong
    else if nat_lt 64 (length line) then stops (LongLine (n + 1))
    else then_reads (meaning line) n (reading (n + 1) lines)

-- a fact for a fault of the script, one for a failed read, and one for a failed write
abbrev pub ByFault : RunFault → Type 0 → Type 0 → Type 0 → Type 0
ByFault (Line n) script read write = script
ByFault (LongLine n) script read write = script
ByFault TooLong script read write = script
ByFault Read script read write = read
ByFault Write script read write = write
