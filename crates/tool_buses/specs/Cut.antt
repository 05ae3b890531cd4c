-- A script that is read, cut into parts, and judged by what each part leaves behind.
use Rattle.std.specs.Prelude.{ℕ, ◌≡◌, ◌≢◌, true, Option, Some, None, List, [], ◌∷◌, map, flat_map, length}
use Rattle.bus_legal.specs.Description.{Description}
use Rattle.bus_legal.specs.Parts.{Parts, description_in}
use Rattle.terminal_rules.specs.LookBack.{keep}
use Rattle.terminal_bus.specs.declared.event.BusEvent.{BusEvent}
use Rattle.terminal_bus.specs.Members.{powered_up}
use Rattle.terminal_bus.specs.Lists.{Each}
use Rattle.terminal_schedules.specs.Left.{left_alone, EndInEveryOrder}
use Rattle.script_terminals.specs.BusReading.{Said, BusReading}
use Rattle.script_terminals.specs.Playing.{reading_of}
use Rattle.bus_reports.specs.declared.judged.PartLeft.{PartLeft}
use Rattle.bus_reports.specs.declared.judged.JudgedMessage.{JudgedMessage}
use Rattle.bus_reports.specs.declared.judged.Judgement.{Judgement}
use Rattle.bus_reports.specs.Outcomes.{in_every_order}
use Rattle.tool_buses.specs.declared.reading.SaidEvent.{SaidEvent}
use Rattle.tool_buses.specs.declared.reading.ReadScript.{ReadScript}
use Rattle.tool_buses.specs.declared.parts.ScriptPart.{ScriptPart}
use Rattle.tool_buses.specs.EndsWell.{reasons_of_part}

abbrev pub said_shown : SaidEvent → Said
said_shown s = record { line = s.line; event = s.event }

abbrev pub reading_shown : ReadScript → BusReading
reading_shown r = record { said = map said_shown r.said.items; fault = r.fault }

-- the event of the line of this number, if it says one
abbrev pub said_on_line : ℕ → Option BusEvent → List SaidEvent
said_on_line line None = []
said_on_line line (Some x) = record { line = line; event = x } ∷ []

-- an event with the line of the file that it stands for
abbrev pub said_for : ℕ → BusEvent → Said
said_for line x = record { line = line; event = x }

abbrev pub said_in_file : (ℕ → ℕ) → SaidEvent → Said
said_in_file source s = said_for (source s.line) s.event

-- the events of a part, with the line of the file for which they stand
abbrev pub said_in_part : ScriptPart → List Said
said_in_part part = map (said_for part.line) part.events.items

abbrev pub NeighboursDiffer : List ℕ → Type 0
NeighboursDiffer [] = Unit {0}
NeighboursDiffer (a ∷ []) = Unit {0}
NeighboursDiffer (a ∷ b ∷ more) = (a ≢ b) × NeighboursDiffer (b ∷ more)

-- A script is cut into parts: their events, one part after the other, are its events with the lines of the file for which they stand.
-- Each part has one, and two that are neighbours stand for different lines.
pub record IsCut (source : ℕ → ℕ) (said : List SaidEvent) (parts : List ScriptPart) : Type 0 where
  pub events : flat_map said_in_part parts ≡ map (said_in_file source) said
  pub some : Each (λ part. part.events.items ≢ []) parts
  pub lines : NeighboursDiffer (map (λ part. part.line) parts)

-- what a part leaves behind
abbrev pub part_left : List Description → ScriptPart → PartLeft
part_left Ps part = record { line = part.line; left = left_alone Ps part.events.items }

-- all of a script is read for terminals so described, and cut; and so much of what it leaves behind is told
pub record IsCutScript (Ps : List Description) (source : ℕ → ℕ) (script : List ℕ) (parts : List ScriptPart) (lefts : List PartLeft) : Type 0 where
  pub said : List SaidEvent
  pub reads : reading_of (powered_up Ps) script ≡ record { said = map said_shown said; fault = None }
  pub cut : IsCut source said parts
  pub left : lefts ≡ map (part_left Ps) parts

-- how many reasons are told why a message doesn't end well alone
abbrev pub told_alone : JudgedMessage → ℕ
told_alone message = length message.alone.items

-- What is told of each part of a script is what it leaves behind, and of each that is a message why it doesn't end well alone. Where each message is said
-- to end well in every order, it does: alone no terminal has a reason why not, and the parts of the script, from power-up, in any order and any number of
-- times, end as each does alone.
pub record JudgesOrder (vs : List Parts) (source : ℕ → ℕ) (script : List ℕ) (judged : Judgement) : Type 0 where
  pub parts : List ScriptPart
  pub told : IsCutScript (map description_in vs) source script parts judged.lefts.items
  pub alone : map told_alone judged.messages.items ≡ keep (reasons_of_part vs) parts
  pub well : in_every_order judged ≡ true → Each (λ n. n ≡ 0) (keep (reasons_of_part vs) parts)
  pub order : in_every_order judged ≡ true → EndInEveryOrder (map description_in vs) (map (λ part. part.events.items) parts)
