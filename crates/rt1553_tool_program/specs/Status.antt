-- The statuses that the program ends with.
use Rattle.std.specs.Prelude.{ℕ, ◌≡◌, ◌≤◌, ◌⊎◌, Bool, true, Result, Ok, Err}
use Rattle.tool_files.specs.declared.fault.ToolFault.{ToolFault}
use Rattle.tool_files.specs.declared.fault.ToolFault.TheVariants.{Output}
use Rattle.rt1553_tool_args.specs.declared.command.ToolCommand.{ToolCommand}
use Rattle.rt1553_tool_args.specs.declared.command.ToolCommand.TheVariants as tool
use Rattle.tool_buses.specs.Troubles.{IsBusStatus}

-- The statuses with which a command can end that is done: those that make a text or a drawing with 0, those that compare with 0 or 1, and
-- those that go through files with the highest of these. Where nothing is judged verify ends with 3, also for a witness.
abbrev pub CanEnd : ToolCommand → ℕ → Type 0
CanEnd (tool.Toml p) status = status ≡ 0
CanEnd (tool.Export p) status = status ≡ 0
CanEnd (tool.Explain p json names) status = status ≡ 0
CanEnd (tool.Acceptance p format names) status = status ≡ 0
CanEnd (tool.Monitor asked) status = status ≡ 0
CanEnd (tool.Coverage asked scripts) status = status ≡ 0
CanEnd (tool.Infer asked) status = status ≤ 1
CanEnd (tool.Messages asked) status = status ≡ 0
CanEnd (tool.Gather asked) status = status ≡ 0
CanEnd (tool.Draw asked) status = status ≡ 0
CanEnd (tool.Live p) status = status ≡ 0
CanEnd (tool.Answers asked) status = status ≡ 0
CanEnd (tool.Check p) status = status ≡ 0
CanEnd (tool.Canon p) status = status ≡ 0
CanEnd (tool.Run p script) status = status ≡ 0
CanEnd (tool.Bus asked profiles tables) status = IsBusStatus asked.output status
CanEnd (tool.Compare p q) status = status ≤ 1
CanEnd (tool.Differ asked) status = status ≤ 1
CanEnd (tool.Against asked) status = status ≤ 1
CanEnd tool.Words status = status ≤ 1
CanEnd (tool.Lint files format) status = status ≤ 4
CanEnd (tool.CheckScript files) status = status ≤ 4
CanEnd (tool.Witness asked) status = (status ≤ 1) ⊎ (status ≡ 3)
CanEnd (tool.Verify asked scripts) status = status ≤ 4
CanEnd (tool.Import table) status = status ≤ 2
CanEnd (tool.CheckImport table p) status = status ≤ 2
CanEnd (tool.Expand messages profile) status = status ≤ 2

-- what a command gave; where its output failed because the reader is gone, the status of a program that SIGPIPE ends
abbrev pub unless_closed : Bool → Result ℕ ToolFault → Result ℕ ToolFault
unless_closed true (Err Output) = Ok 141
unless_closed is_closed done = done
