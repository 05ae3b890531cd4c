-- What is told of messages on a bus.
use Rattle.std.specs.Prelude.{ℕ, ◌≡◌, ◌≤◌, Bool, true, false, ◌==◌, if◌then◌else◌, Option, Some, None}
use Rattle.rt1553_tool_args.specs.declared.command.BusOutput.{BusOutput}
use Rattle.rt1553_tool_args.specs.declared.command.BusOutput.TheVariants.{Check}
use Rattle.rt1553_tool_args.specs.declared.command.CheckFormat.{CheckFormat}
use Rattle.rt1553_tool_args.specs.declared.command.CheckFormat.TheVariants.{Text}
use Rattle.tool_buses.specs.declared.trouble.CommandTrouble.{CommandTrouble}
use Rattle.tool_buses.specs.declared.trouble.CommandTrouble.TheVariants.{NoProfile, NoRow, NoTaker}

-- of a command to one terminal, by whether a profile has its address and the terminal has a row of the message
abbrev pub one_trouble : Bool → Bool → Option CommandTrouble
one_trouble false seen = Some NoProfile
one_trouble true false = Some NoRow
one_trouble true true = None

-- of a command: a broadcast is to be done by some terminal
abbrev pub command_trouble : Bool → Bool → Bool → Bool → Option CommandTrouble
command_trouble true profile seen done = if done then None else Some NoTaker
command_trouble false profile seen done = one_trouble profile seen

-- 0 where no message is told, else 1
abbrev pub told_status : ℕ → ℕ
told_status n = if n == 0 then 0 else 1

-- the statuses of a check: as text 0 or 1, since a file that is refused gives none; a report has that of its fault, too
abbrev pub IsCheckStatus : CheckFormat → ℕ → Type 0
IsCheckStatus Text status = status ≤ 1
IsCheckStatus format status = status ≤ 4

-- the statuses of `bus`: those of a check, and 0 for all else
abbrev pub IsBusStatus : BusOutput → ℕ → Type 0
IsBusStatus (Check asked) status = IsCheckStatus asked.format status
IsBusStatus output status = status ≡ 0
