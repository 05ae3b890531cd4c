-- The numbers of messages, by their cells.
use Rattle.std.specs.Prelude.{ℕ, ◌+◌, ◌*◌, ◌%◌, Bool, true, false, if◌then◌else◌, Option, Some, None}
use Rattle.bus_word.specs.declared.cell.Cell.{Cell}
use Rattle.bus_word.specs.declared.cell.Cell.TheVariants.{OwnReceive, OwnTransmit, BroadReceive, OwnMode, BroadMode}
use Rattle.bus_word.specs.declared.mode.ModeRow.{ModeRow}
use Rattle.bus_word.specs.Mode.{mode_row}

-- whether the terminal transmits, by the row of a mode code
abbrev pub row_transmits : Option ModeRow → Bool
row_transmits None = false
row_transmits (Some row) = row.transmit

-- the number of a message, by its parts
abbrev pub number_by : Bool → Bool → ℕ → ℕ → ℕ
number_by by_broadcast transmit s low = (((if by_broadcast then 2048 else 0) + (if transmit then 1024 else 0)) + s * 32) + low

abbrev pub number_of_cell : Cell → ℕ
number_of_cell (OwnReceive s n) = number_by false false s (n % 32)
number_of_cell (OwnTransmit s n) = number_by false true s (n % 32)
number_of_cell (BroadReceive s n) = number_by true false s (n % 32)
number_of_cell (OwnMode c) = number_by false (row_transmits (mode_row c)) 0 c
number_of_cell (BroadMode c) = number_by true (row_transmits (mode_row c)) 0 c
