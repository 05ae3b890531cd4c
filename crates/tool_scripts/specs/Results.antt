-- What `check`, `canon` and `compare` say of texts.
use Rattle.std.specs.Prelude.{ℕ, ◌≡◌, ◌≢◌, ◌⊎◌, List, codes}
use Rattle.bus_legal.specs.Description.{Description}
use Rattle.terminal_rules.specs.declared.event.Event.{Event}
use Rattle.script_lines.specs.EventLine.{script_text}
use Rattle.rt1553.specs.Load.{Of, IsNotLoaded}
use Rattle.rt1553.specs.Compare.{AreSame, AreDifferent, IsNotCompared}
use Rattle.rt1553.specs.declared.fault.LoadFault.{LoadFault}
use Rattle.rt1553.specs.declared.fault.LoadFault.TheVariants as load
use Rattle.tool_files.specs.declared.fault.ToolFault.{ToolFault}
use Rattle.tool_files.specs.declared.fault.ToolFault.TheVariants.{Memory}
use Rattle.tool_files.specs.Status.{RefusesText}

-- the text is accepted: it is of some terminal
abbrev pub IsOfTerminal : List ℕ → Type 0
IsOfTerminal text = (P : Description) × Of text P

-- memory ran out, or a text is refused for a fault of which this holds, and which isn't that memory ran out
abbrev pub IsRefusalBy : (LoadFault → Type 0) → ToolFault → Type 0
IsRefusalBy Holds fault = RefusesText fault × ((fault ≡ Memory) ⊎ ((cause : LoadFault) × (cause ≢ load.Memory) × Holds cause))

-- memory ran out, or the text is refused
abbrev pub IsRefusalOf : List ℕ → ToolFault → Type 0
IsRefusalOf text = IsRefusalBy (IsNotLoaded text)

-- memory ran out, or one of the two texts is refused
abbrev pub RefusesEither : List ℕ → List ℕ → ToolFault → Type 0
RefusesEither first second = IsRefusalBy (IsNotCompared first second)

-- Status 0: the two mean the same terminal, and that is the text. Status 1: they differ, and the text is a script that shows it.
abbrev pub IsVerdict : List ℕ → List ℕ → List ℕ → ℕ → Type 0
IsVerdict first second text status =
    ((status ≡ 0) × AreSame first second × (text ≡ codes "same\n"))
    ⊎ ((status ≡ 1) × (script : List Event) × AreDifferent first second script × (text ≡ script_text script))
