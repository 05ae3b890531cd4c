-- The name of the message of a cell.
use Rattle.std.specs.Prelude.{ℕ, Bool, if◌then◌else◌, List, [], ◌∷◌, Option, Some, None}
use Rattle.std.specs.Option.{option_or}
use Rattle.bus_word.specs.declared.cell.Cell.{Cell}
use Rattle.message_names.specs.declared.cells.NamedCells.{NamedCells}
use Rattle.message_names.specs.NamedCells.{names_place, names_cell}
use Rattle.message_names.specs.NameRow.{NameRow}

-- the first row that passes the test
abbrev pub first_row : (NamedCells → Bool) → List NameRow → Option NameRow
first_row p [] = None
first_row p (row ∷ rows) = if p row.cells then Some row else first_row p rows

-- a name, unless it is empty
abbrev pub if_named : List ℕ → Option (List ℕ)
if_named [] = None
if_named (b ∷ bs) = Some (b ∷ bs)

-- the name of the row, if there is one and it has a name
abbrev pub row_name : Option NameRow → Option (List ℕ)
row_name None = None
row_name (Some row) = if_named row.name

-- The name of the first row that speaks of the cell, or where none does, of the first that speaks of it with another word count. A row
-- without a name hides those behind it: the messages that it speaks of have no name.
abbrev pub name_of : List NameRow → Cell → Option (List ℕ)
name_of rows cell = row_name (option_or (first_row (names_cell cell) rows) (first_row (names_place cell) rows))
