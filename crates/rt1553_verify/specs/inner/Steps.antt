-- A line of a script that is read event by event.
use Rattle.std.specs.Prelude.{ℕ, ◌≡◌, ◌⊎◌, ◌<◌, Bool, true, false, List, [], ◌∷◌, Option, Some, None, Result, Ok, Err}
use Rattle.script_lines.specs.Text.{lines_of}
use Rattle.rt1553_verify.specs.declared.stated.Stated.{Stated}
use Rattle.rt1553_verify.specs.declared.stated.StatedFault.{StatedFault}
use Rattle.rt1553_verify.specs.declared.stated.StatedFault.TheVariants.{Memory, Read}
use Rattle.rt1553_verify.specs.Stated.{StatedEvent}
use Rattle.rt1553_verify.specs.Reader.{NextIs}

-- these bytes are the first line of a text, and others are what follows it
abbrev pub IsFirstLine : List ℕ → List ℕ → List ℕ → Type 0
IsFirstLine bytes text rest = (line : List ℕ) × (lines_of bytes ≡ line ∷ []) × (lines_of text ≡ line ∷ lines_of rest)

-- these bytes were read, a line, or the input was at its end
abbrev pub ReadsLine : Option (List ℕ) → Option (List ℕ) → List ℕ → Bool → Type 0
ReadsLine None new bytes more = Unit {0}
ReadsLine (Some text) new bytes true = (rest : List ℕ) × (new ≡ Some rest) × IsFirstLine bytes text rest
ReadsLine (Some text) new bytes false = (text ≡ []) × (new ≡ Some [])

-- the fault says nothing of the script
abbrev pub IsReadFault : StatedFault → Type 0
IsReadFault fault = (fault ≡ Memory) ⊎ (fault ≡ Read)

-- at the end what comes next is given, and after one line of a script an event, or as much is left as before
abbrev pub StepBy : Option (Result (List StatedEvent) StatedFault) → Option (Result (List StatedEvent) StatedFault) → Bool → Option Stated → Type 0
StepBy old new true next = NextIs old new (Ok next)
StepBy old new false (Some s) = NextIs old new (Ok (Some s))
StepBy None new false None = Unit {0}
StepBy (Some said) new false None = new ≡ Some said

abbrev pub StepIs : Option (Result (List StatedEvent) StatedFault) → Option (Result (List StatedEvent) StatedFault) → Result (Option Stated × Bool) StatedFault → Type 0
StepIs old new (Ok step) = StepBy old new step.1 step.0
StepIs old new (Err fault) = NextIs old new (Err fault)

-- fewer turns are left, unless the script is at its end and gives no event
abbrev pub IsFewer : ℕ → ℕ → Bool → Option Stated → Type 0
IsFewer old new true None = Unit {0}
IsFewer old new is_end next = new < old
