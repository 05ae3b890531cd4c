-- Which cells a row speaks of.
use Rattle.std.specs.Prelude.{ℕ, ◌-◌, Bool, true, ◌&&◌, nat_le, nat_lt}
use Rattle.bus_word.specs.declared.cell.Cell.{Cell}
use Rattle.bus_word.specs.declared.cell.Cell.TheVariants.{OwnReceive, OwnTransmit, BroadReceive, OwnMode, BroadMode}
use Rattle.bus_word.specs.Mask.{has_bit}
use Rattle.message_names.specs.declared.cells.NamedCells.{NamedCells}

-- the number is in the set of a mask, whose lowest bit stands for the first number
abbrev pub is_in : ℕ → ℕ → ℕ → Bool
is_in mask first n = (nat_le first n && nat_lt (n - first) 32) && has_bit mask (n - first)

-- the row speaks of the direction, the addressee and the subaddress of the cell, or of its mode code and addressee
abbrev pub names_place : Cell → NamedCells → Bool
names_place (OwnReceive s n) row = row.own && is_in row.receive 1 s
names_place (OwnTransmit s n) row = row.own && is_in row.transmit 1 s
names_place (BroadReceive s n) row = row.broadcast && is_in row.receive 1 s
names_place (OwnMode c) row = row.own && is_in row.codes 0 c
names_place (BroadMode c) row = row.broadcast && is_in row.codes 0 c

-- the row speaks of the word count of the cell, if it has one
abbrev pub names_count : Cell → NamedCells → Bool
names_count (OwnReceive s n) row = is_in row.counts 1 n
names_count (OwnTransmit s n) row = is_in row.counts 1 n
names_count (BroadReceive s n) row = is_in row.counts 1 n
names_count _ row = true

-- the row speaks of the cell
abbrev pub names_cell : Cell → NamedCells → Bool
names_cell cell row = names_place cell row && names_count cell row
