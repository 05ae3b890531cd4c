-- The names of messages that a command is given, and of a command word.
use Rattle.std.specs.Prelude.{ℕ, ◌≡◌, if◌then◌else◌, List, Option, Some, None}
use Rattle.std.specs.Borrow.{Bor}
use Rattle.bus_word.specs.declared.cell.Cell.{Cell}
use Rattle.bus_word.specs.declared.cell.Cell.TheVariants.{OwnMode, BroadMode}
use Rattle.bus_word.specs.Cell.{cell_of}
use Rattle.bus_word.specs.Command.{code_of, is_mode, is_broadcast}
use Rattle.message_names.specs.NameRow.{NameRow}
use Rattle.message_names.specs.Names.{name_of}
use Rattle.sha2.specs.Sha256.{sha256}
use Rattle.bus_legal.specs.Parts.{Parts}
use Rattle.rt1553.specs.Load.{Reaches}
use Rattle.rt1553_import.specs.Import.{IsImported}
use Rattle.tool_names.specs.declared.names.LoadedNames.{LoadedNames}
use Rattle.tool_names.specs.declared.names.TerminalNames.{TerminalNames}
use Rattle.tool_names.specs.Names.{AreNamesOf}

-- without a table there are no names, and with one they are those of a text that is a table without faults
abbrev pub AreLoadedNames : Option (Bor (List ℕ)) → Option (List NameRow) → Type 0
AreLoadedNames None None = Unit {0}
AreLoadedNames (Some name) (Some names) = (table : List ℕ) × AreNamesOf table names
AreLoadedNames _ _ = ⊥

-- they are those of this text, a table without faults, and this is its digest
abbrev pub AreNamesOfTable : List ℕ → LoadedNames → Type 0
AreNamesOfTable table loaded = AreNamesOf table loaded.names × (loaded.digest ≡ sha256 table)

-- the same of some text
abbrev pub AreNamesOfFile : LoadedNames → Type 0
AreNamesOfFile loaded = (table : List ℕ) × AreNamesOfTable table loaded

-- the terminal of the profile that a table says
abbrev pub IsTableFor : List ℕ → Parts → Type 0
IsTableFor table normal = (text : List ℕ) × IsImported table text × Reaches text normal

-- the same of some text, with the address of the terminal that it is for
abbrev pub AreNamesOfTerminal : TerminalNames → Type 0
AreNamesOfTerminal it = (table : List ℕ) × (normal : Parts) × AreNamesOfTable table it.loaded × IsTableFor table normal × (it.address ≡ normal.address)

-- the cell of a command, also of a mode code that no terminal may have
abbrev pub command_cell : ℕ → Option Cell
command_cell command =
    if is_mode command then Some (if is_broadcast command then BroadMode (code_of command) else OwnMode (code_of command))
    else cell_of command

-- the name of a cell, if there is one
abbrev pub name_at : List NameRow → Option Cell → Option (List ℕ)
name_at names None = None
name_at names (Some cell) = name_of names cell

-- the name of the message of a command word
abbrev pub name_of_command : List NameRow → ℕ → Option (List ℕ)
name_of_command names word = name_at names (command_cell word)
