-- The statuses of faults, and what faults tell of.
use Rattle.std.specs.Prelude.{ℕ, ◌≡◌, ◌≤◌, ◌⊎◌, List, [], ◌∷◌, Option, Some, None, length}
use Rattle.bus_legal.specs.Parts.{Parts}
use Rattle.rt1553.specs.Load.{Reaches}
use Rattle.script_lines.specs.Text.{lines_of}
use Rattle.refused_lines.specs.Refused.{refused_from}
use Rattle.rt1553_files.specs.declared.fault.FileFault.{FileFault}
use Rattle.rt1553_files.specs.declared.fault.FileFault.TheVariants as file
use Rattle.rt1553_verify.specs.declared.stated.StatedFault.{StatedFault}
use Rattle.rt1553_verify.specs.declared.stated.StatedFault.TheVariants as stated
use Rattle.tool_files.specs.declared.fault.UnreadCause.{UnreadCause}
use Rattle.tool_files.specs.declared.fault.UnreadCause.TheVariants.{TooLarge}
use Rattle.tool_files.specs.declared.fault.ToolFault.{ToolFault}
use Rattle.tool_files.specs.declared.fault.ToolFault.TheVariants.{Memory, NoName, Input, Output, Line, Message, Refused, NotText, Usage, Unread}

-- 2 for a text that is refused, 3 for arguments that the program does not accept, 4 where a file, a stream or memory failed
abbrev pub tool_status : ToolFault → ℕ
tool_status (Line name line) = 2
tool_status (Message name line) = 2
tool_status (Refused told) = 2
tool_status NotText = 3
tool_status (Usage cause) = 3
tool_status Memory = 4
tool_status NoName = 4
tool_status Input = 4
tool_status Output = 4
tool_status (Unread name cause) = 4

-- the status of a script that doesn't state its answers as it should, or can't be read on
abbrev pub stated_status : StatedFault → ℕ
stated_status stated.Memory = 4
stated_status stated.Read = 4
stated_status _ = 2

-- A file that can't be read, or has more bytes than so many, is told by its name as it is printed. Out of memory is out of memory.
abbrev pub TellsUnread : ℕ → FileFault → ToolFault → Type 0
TellsUnread most file.Memory told = told ≡ Memory
TellsUnread most (file.CannotRead name) told = (cause : UnreadCause) × (told ≡ Unread name cause)
TellsUnread most (file.TooLarge name) told = told ≡ Unread name (TooLarge most)

-- a file can't be read on, or memory ran out
abbrev pub IsFailedRead : ToolFault → Type 0
IsFailedRead (Unread name cause) = Unit {0}
IsFailedRead fault = fault ≡ Memory

-- a text is refused, or memory ran out
abbrev pub RefusesText : ToolFault → Type 0
RefusesText (Refused told) = Unit {0}
RefusesText fault = fault ≡ Memory

-- some text, of at most 1,048,576 bytes, is of this terminal
abbrev pub IsLoaded : Parts → Type 0
IsLoaded value = (text : List ℕ) × (length text ≤ 1048576) × Reaches text value

-- the line of which a fault tells that it is refused
abbrev pub line_told : ToolFault → Option ℕ
line_told (Line name line) = Some line.line
line_told _ = None

-- of the lines of a script that are refused the first is told; where there is none, the fault is the other one
abbrev pub TellsFirst : List ℕ → ToolFault → ToolFault → Type 0
TellsFirst [] other fault = fault ≡ other
TellsFirst (n ∷ ns) other fault = line_told fault ≡ Some n

-- the same of a script, where memory may run out
abbrev pub TellsRefused : List ℕ → ToolFault → ToolFault → Type 0
TellsRefused script other fault = (fault ≡ Memory) ⊎ TellsFirst (refused_from 1 (lines_of script)) other fault
