-- The messages that commands ask for.
use Rattle.std.specs.Prelude.{ℕ, ◌+◌, ◌*◌, Bool, true, false, ◌==◌, if◌then◌else◌, Option, Some, None, List, ◌++◌, map, flat_map}
use Rattle.std.specs.List.{range_with_len}
use Rattle.bus_word.specs.declared.cell.Cell.{Cell}
use Rattle.bus_word.specs.declared.cell.Cell.TheVariants.{OwnReceive, OwnTransmit, BroadReceive, OwnMode, BroadMode}
use Rattle.bus_word.specs.Cell.{cell_of}
use Rattle.bus_word.specs.Command.{is_broadcast, is_mode, transmits, subaddress_of, code_of}
use Rattle.terminal_rules.specs.WorkedExamples.Words.{same_cell}
use Rattle.message_names.specs.declared.counts.MessageKind.{MessageKind}
use Rattle.message_names.specs.declared.counts.MessageKind.TheVariants.{Receive, Transmit, BroadcastReceive}

-- The number of the message that a command asks for: by broadcast or not, T/R, the subaddress, which is that of all mode codes or
-- one of data, and the word count or mode code.
abbrev pub message_number : ℕ → ℕ
message_number c =
    (((if is_broadcast c then 2048 else 0) + (if transmits c then 1024 else 0)) + (if is_mode c then 0 else subaddress_of c) * 32) + code_of c

-- the two ask for the same, whichever terminal they are for
abbrev pub is_same_message : ℕ → ℕ → Bool
is_same_message c d = message_number d == message_number c

-- the cell is this one, where there is one
abbrev pub is_this_cell : Cell → Option Cell → Bool
is_this_cell cell None = false
is_this_cell cell (Some other) = same_cell cell other

-- a command has this cell
abbrev pub has_this_cell : Cell → ℕ → Bool
has_this_cell cell c = is_this_cell cell (cell_of c)

-- the cell of a message of data
abbrev pub cell_at : MessageKind → ℕ → ℕ → Cell
cell_at Receive s n = OwnReceive s n
cell_at Transmit s n = OwnTransmit s n
cell_at BroadcastReceive s n = BroadReceive s n

-- the cell of a mode code, by broadcast or to the own address
abbrev pub mode_at : Bool → ℕ → Cell
mode_at true code = BroadMode code
mode_at false code = OwnMode code

-- those of each word count at a subaddress
unfoldable pub cells_at : MessageKind → ℕ → List Cell
cells_at kind s = map (cell_at kind s) (range_with_len 1 32)

-- those at each subaddress
unfoldable pub cells_in : MessageKind → List Cell
cells_in kind = flat_map (cells_at kind) (range_with_len 1 30)

unfoldable pub cells_of_codes : Bool → List Cell
cells_of_codes broadcast = map (mode_at broadcast) (range_with_len 0 32)

-- all messages, by their cells
unfoldable pub all_cells : List Cell
all_cells = (((cells_in Receive ++ cells_in Transmit) ++ cells_in BroadcastReceive) ++ cells_of_codes false) ++ cells_of_codes true
