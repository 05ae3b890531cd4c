-- The cells in which a terminal decides whether a command is legal.
use Rattle.std.specs.Prelude.{ℕ, Bool, true, false, not, ◌&&◌, nat_le, if◌then◌else◌, Option, Some, None, is_some}
use Rattle.bus_word.specs.declared.mode.ModeRow.{ModeRow}
use Rattle.bus_word.specs.declared.cell.Cell.{Cell}
use Rattle.bus_word.specs.declared.cell.Cell.TheVariants.{OwnReceive, OwnTransmit, BroadReceive, OwnMode, BroadMode}
use Rattle.bus_word.specs.Command.{transmits, subaddress_of, code_of, count_of, is_mode, is_broadcast}
use Rattle.bus_word.specs.Mode.{mode_row}

-- a command to a subaddress of data: a broadcast transmit command has no cell
abbrev pub data_cell : ℕ → Option Cell
data_cell command =
    if transmits command
    then (if is_broadcast command then None else Some (OwnTransmit (subaddress_of command) (count_of command)))
    else (if is_broadcast command then Some (BroadReceive (subaddress_of command) (count_of command)) else Some (OwnReceive (subaddress_of command) (count_of command)))

-- the two truth values are equal
abbrev pub same_bool : Bool → Bool → Bool
same_bool true b = b
same_bool false b = not b

-- a mode code with this row: the T/R must be that of the row, and by broadcast the row must allow it
abbrev pub mode_cell : ℕ → ModeRow → Option Cell
mode_cell command row =
    if same_bool (transmits command) row.transmit
    then (if is_broadcast command then (if row.broadcast then Some (BroadMode (code_of command)) else None) else Some (OwnMode (code_of command)))
    else None

-- a mode code, with what the table of mode codes says of it
abbrev pub mode_cell_by : ℕ → Option ModeRow → Option Cell
mode_cell_by command None = None
mode_cell_by command (Some row) = mode_cell command row

-- the cell of a command, or none for a command that is always illegal
abbrev pub cell_of : ℕ → Option Cell
cell_of command = if is_mode command then mode_cell_by command (mode_row (code_of command)) else data_cell command

-- a subaddress of data, and a word count
abbrev pub is_data_place : ℕ → ℕ → Bool
is_data_place subaddress count = (nat_le 1 subaddress && nat_le subaddress 30) && (nat_le 1 count && nat_le count 32)

-- the row of a mode code, where there is one, allows broadcast
abbrev pub allows_broadcast : Option ModeRow → Bool
allows_broadcast None = false
allows_broadcast (Some row) = row.broadcast

-- The cells that some command has, told by what is in them; that it is just these, is a law.
abbrev pub is_allowed : Cell → Bool
is_allowed (OwnReceive s n) = is_data_place s n
is_allowed (OwnTransmit s n) = is_data_place s n
is_allowed (BroadReceive s n) = is_data_place s n
is_allowed (OwnMode c) = is_some (mode_row c)
is_allowed (BroadMode c) = allows_broadcast (mode_row c)
