-- The rows of the messages of a script.
use Rattle.std.specs.Prelude.{◌≡◌, ℕ, ◌<◌, List, [], length, map, get_or, Some, None}
use Rattle.std.specs.List.{flat_map}
use Rattle.bus_legal.specs.Description.{Description}
use Rattle.bus_legal.specs.Parts.{Parts, description_in}
use Rattle.bus_legal.specs.Reach.{reach}
use Rattle.script_lines.specs.Text.{lines_of}
use Rattle.bus_script.specs.Reading.{reading}
use Rattle.rt1553.specs.Load.{Reaches, IsNoCanonText}
use Rattle.rt1553.specs.Engine.{OnLoad, OnScript}
use Rattle.rt1553.specs.declared.fault.EngineFault.{EngineFault}
use Rattle.rt1553_live.specs.PlainFault.{TellsFault}
use Rattle.rt1553_live.specs.declared.fault.PlainFault.{PlainFault}
use Rattle.terminal_messages.specs.Messages.{messages_of}
use Rattle.terminal_messages.specs.View.{View, told_view}
use Rattle.drawing_boxes.specs.Refused.{events_on}
use Rattle.message_rows.specs.Texts.{row_line}

-- the number of the line of an event, by how many events of the script come before it
abbrev pub line_of_event : List ℕ → ℕ → ℕ
line_of_event script n = get_or (map (λ it. it.line) (events_on 0 (lines_of script))) n 0

-- the rows of messages as they are told
abbrev pub rows_told : List View → List ℕ
rows_told = flat_map row_line

-- the rows of the messages that a terminal of this description has in a script, up to the first fault of it
abbrev pub script_rows : Description → List ℕ → List ℕ
script_rows P script = rows_told (map (told_view P (line_of_event script)) (messages_of P (reading 0 (lines_of script)).events))

-- These are the rows of the terminal of a text in a script: of a description of which the same can be reached.
pub record ListsMessages (text script rows : List ℕ) : Type 0 where
  pub value : Parts
  pub description : Description
  pub of : Reaches text value
  pub same : reach description ≡ description_in value
  pub gives : rows ≡ script_rows description script

-- the rows of a script without fault
pub record ListsAll (text script rows : List ℕ) : Type 0 where
  pub lists : ListsMessages text script rows
  pub whole : (reading 0 (lines_of script)).fault ≡ None

-- the rows have more bytes than there is room for
abbrev pub ListsTooMany : (text script : List ℕ) → ℕ → Type 0
ListsTooMany text script room = (rows : List ℕ) × ListsMessages text script rows × (room < length rows)

-- Why there are no rows, or none behind these, and that is told: the text has this first fault; or a line of the script has, and these
-- are the rows of the events before it.
pub record TellsListing (text script rows : List ℕ) (to : PlainFault) : Type 0 where
  pub fault : EngineFault
  pub not_loaded : OnLoad fault (λ f. IsNoCanonText text f × (rows ≡ []))
  pub stopped : OnScript fault (λ f. ListsMessages text script rows × ((reading 0 (lines_of script)).fault ≡ Some f))
  pub tells : TellsFault to fault
