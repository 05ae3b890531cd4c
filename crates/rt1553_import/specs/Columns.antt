-- The columns of a table that count, and the text of a row in a column.
use Rattle.std.specs.Prelude.{ℕ, ◌+◌, Bool, false, List, [], ◌∷◌, drop, Option, Some, None, codes}
use Rattle.std.specs.List.{position_from}
use Rattle.std.specs.Str.{str_eq_ignore_ascii_case, trim}
use Rattle.csv.specs.Records.{fields_of, field_at}
use Rattle.rt1553_import.specs.declared.column.TableColumn.{TableColumn}
use Rattle.rt1553_import.specs.declared.column.TableColumn.TheVariants as column
use Rattle.csv_rows.specs.declared.place.CellPlace.{CellPlace}
use Rattle.rt1553_import.specs.declared.sheet.Sheet.{Sheet}
use Rattle.rt1553_import.specs.declared.sheet.TableRow.{TableRow}

-- the column's header
abbrev pub column_name : TableColumn → List ℕ
column_name column.Kind = codes "kind"
column_name column.Value = codes "value"
column_name column.Subaddress = codes "subaddress"
column_name column.Words = codes "words"
column_name column.Code = codes "code"
column_name column.To = codes "to"
column_name column.Initial = codes "initial"
column_name column.Legal = codes "legal"
column_name column.Name = codes "name"

-- the known columns, in the order in which faults of a row are reported
abbrev pub all_columns : List TableColumn
all_columns = column.Kind ∷ column.Value ∷ column.Subaddress ∷ column.Words ∷ column.Code ∷ column.To ∷ column.Initial ∷ column.Legal ∷ column.Name ∷ []

-- the field is there and has this text, but for capitals
abbrev pub is_field : List ℕ → Option (List ℕ) → Bool
is_field text None = false
is_field text (Some field) = str_eq_ignore_ascii_case field text

-- the place, from 0, of the first field with this text, but for capitals, from a start on
abbrev pub place_from : List ℕ → ℕ → List (List ℕ) → Option ℕ
place_from text start fields = position_from (λ field. str_eq_ignore_ascii_case field text) start (drop start fields)

-- the place of a column in the header
abbrev pub place_of : Sheet → TableColumn → Option ℕ
place_of sheet c = place_from (column_name c) 0 (fields_of sheet.header.fields)

-- a field without blanks at its ends, and no text where there is no field
abbrev pub trimmed_field : Option (List ℕ) → List ℕ
trimmed_field None = []
trimmed_field (Some field) = trim field

-- the trimmed field at a place of a row; empty without a place
abbrev pub field_text : List (List ℕ) → Option ℕ → List ℕ
field_text fields None = []
field_text fields (Some place) = trimmed_field (field_at fields place)

-- the text of a row in a column: none where there is no such column
abbrev pub cell : Sheet → TableRow → TableColumn → List ℕ
cell sheet row c = field_text (fields_of row.fields) (place_of sheet c)

-- the number, from 1, of a column; 1 where it is not there
abbrev pub column_number : Option ℕ → ℕ
column_number None = 1
column_number (Some place) = place + 1

-- the place of a row in a column
abbrev pub row_place : Sheet → TableRow → TableColumn → CellPlace
row_place sheet row c = record { row = row.line; column = column_number (place_of sheet c) }
