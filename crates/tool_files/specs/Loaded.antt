-- Profiles and scripts of files, the scripts as they stand there, or expanded.
use Rattle.std.specs.Prelude.{ℕ, ◌≡◌, ◌≤◌, length, List, [], ◌∷◌, Option, Some, None, option_map}
use Rattle.rt1553_expand.specs.declared.expanding.Expanded.TheVariants.{Script}
use Rattle.rt1553_expand.specs.declared.script_for.ScriptFor.{ScriptFor}
use Rattle.rt1553_expand.specs.declared.script_for.ScriptFor.TheVariants.{Terminal}
use Rattle.rt1553_expand.specs.Expansion.{IsExpansion}
use Rattle.rt1553_expand.specs.Sources.{sources_in}
use Rattle.rt1553_expand.specs.declared.expanding.UnexpandedLine.{UnexpandedLine}
use Rattle.sha2.specs.Sha256.{sha256}
use Rattle.rt1553.specs.Load.{Reaches}
use Rattle.tool_files.specs.declared.files.LoadedProfile.{LoadedProfile}
use Rattle.tool_files.specs.declared.fault.ToolFault.{ToolFault}
use Rattle.tool_files.specs.declared.fault.ToolFault.TheVariants.{Message}
use Rattle.tool_files.specs.declared.loaded.LoadedScript.{LoadedScript}

-- a text, of at most 1,048,576 bytes, is of this terminal, and has this digest
abbrev pub IsLoadedFile : LoadedProfile → Type 0
IsLoadedFile profile = (text : List ℕ) × (length text ≤ 1048576) × Reaches text profile.normal × (profile.digest ≡ sha256 text)

-- What a file with this text is expanded to for these terminals, with the line of the file from which each line comes, and the digest of
-- the file's text.
abbrev pub IsExpandedScript : ScriptFor → List ℕ → LoadedScript → Type 0
IsExpandedScript own text script =
    IsExpansion own text (Script script.text) × (option_map (λ lines. lines.items) script.sources ≡ Some (sources_in own text))
    × (script.digest ≡ Some (sha256 text))

-- the script of a file with this text: the text, or what it is expanded to for the terminal of an address
abbrev pub IsScriptOf : Option ℕ → List ℕ → LoadedScript → Type 0
IsScriptOf None text script = (script.text.items ≡ text) × (script.sources ≡ None) × (script.digest ≡ None)
IsScriptOf (Some own) text script = IsExpandedScript (Terminal (Some own)) text script

-- the line of events and messages of which a fault tells that it is refused
abbrev pub message_told : ToolFault → Option UnexpandedLine
message_told (Message name line) = Some line
message_told _ = None

-- the fault tells of the first of these lines
abbrev pub TellsMessage : List UnexpandedLine → ToolFault → Type 0
TellsMessage [] fault = ⊥
TellsMessage (line ∷ lines) fault = message_told fault ≡ Some line
