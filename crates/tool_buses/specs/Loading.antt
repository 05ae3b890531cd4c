-- The scripts of files of messages for a bus, and why there is none.
use Rattle.std.specs.Prelude.{ℕ, ◌≡◌, ◌≢◌, ◌<◌, ◌⊎◌, List, [], Result, Ok, Err}
use Rattle.script_lines.specs.Text.{lines_of}
use Rattle.rt1553_expand.specs.declared.script_for.ScriptFor.{ScriptFor}
use Rattle.rt1553_expand.specs.Expansion.{line_count}
use Rattle.rt1553_expand.specs.OnBus.{bus_refusals_in}
use Rattle.tool_files.specs.declared.fault.ToolFault.{ToolFault}
use Rattle.tool_files.specs.declared.fault.ToolFault.TheVariants.{Memory}
use Rattle.tool_files.specs.declared.loaded.LoadedScript.{LoadedScript}
use Rattle.tool_files.specs.Loaded.{IsExpandedScript}
use Rattle.tool_files.specs.Status.{RefusesText}

-- the text of a file is refused on a bus: a line of it is, or its script would have too many lines
abbrev pub IsRefusedOnBus : ScriptFor → List ℕ → Type 0
IsRefusedOnBus own text = (bus_refusals_in own text ≢ []) ⊎ (1048576 < line_count own (lines_of text))

-- The script of a file with this text, in which no line is refused; or why there is none. Memory may run out.
abbrev pub LoadsOnBus : ScriptFor → List ℕ → Result LoadedScript ToolFault → Type 0
LoadsOnBus own text (Ok script) = IsExpandedScript own text script × (bus_refusals_in own text ≡ [])
LoadsOnBus own text (Err fault) = (fault ≡ Memory) ⊎ (RefusesText fault × IsRefusedOnBus own text)
