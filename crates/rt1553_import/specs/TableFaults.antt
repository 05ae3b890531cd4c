-- The faults of a table itself, apart from the profile that it says.
use Rattle.std.specs.Prelude.{ℕ, ◌+◌, ◌==◌, ◌&&◌, min, Bool, true, false, if◌then◌else◌, is_none, List, [], ◌∷◌, ◌++◌, flat_map, length, Option, Some, None}
use Rattle.std.specs.List.{list_any}
use Rattle.csv.specs.Records.{fields_of}
use Rattle.rt1553_import.specs.declared.column.TableColumn.{TableColumn}
use Rattle.rt1553_import.specs.declared.column.TableColumn.TheVariants as column
use Rattle.rt1553_import.specs.declared.kind.RowKind.{RowKind}
use Rattle.csv_rows.specs.declared.place.CellPlace.{CellPlace}
use Rattle.rt1553_import.specs.declared.fault.TableFault.{TableFault}
use Rattle.rt1553_import.specs.declared.fault.TableFaultKind.{TableFaultKind}
use Rattle.rt1553_import.specs.declared.fault.TableFaultKind.TheVariants as fault
use Rattle.rt1553_import.specs.declared.sheet.Sheet.{Sheet}
use Rattle.rt1553_import.specs.declared.sheet.TableRow.{TableRow}
use Rattle.rt1553_import.specs.Columns.{column_name, all_columns, place_from, place_of, cell, row_place}
use Rattle.rt1553_import.specs.Kinds.{row_kind, is_setting, takes}
use Rattle.rt1553_import.specs.Cells.{has_no_text, cell_number, cell_words}
use Rattle.rt1553_import.specs.Tree.{is_kind}

-- a fault of this kind at this place
abbrev pub fault_where : CellPlace → TableFaultKind → TableFault
fault_where place k = record { place = Some place; kind = k }

-- a list of the fault, or no fault
abbrev pub fault_if_any : Option TableFault → List TableFault
fault_if_any None = []
fault_if_any (Some f) = f ∷ []

-- ---- the header

-- a row of this kind may have text in the column
abbrev pub takes_if : TableColumn → Option RowKind → Bool
takes_if c None = false
takes_if c (Some k) = takes k c

-- one of the rows may have text in the column
abbrev pub is_taken : Sheet → TableColumn → Bool
is_taken sheet c = list_any (λ row. takes_if c (row_kind (cell sheet row column.Kind))) sheet.rows.items

-- The header needs the column: `kind`, and those without which a setting, a message of data or mode codes say nothing.
abbrev pub is_needed : Sheet → TableColumn → Bool
is_needed sheet column.Kind = true
is_needed sheet column.Value = is_taken sheet column.Value
is_needed sheet column.Subaddress = is_taken sheet column.Subaddress
is_needed sheet column.Code = is_taken sheet column.Code
is_needed sheet _ = false

-- the fault of a second column of the same name, where there is one
abbrev pub second_fault : Sheet → TableColumn → Option ℕ → Option TableFault
second_fault sheet c None = None
second_fault sheet c (Some place) = Some (fault_where (record { row = sheet.header.line; column = place + 1 }) (fault.TwoColumns c))

-- the fault of a column by its first place: it is needed and not there, or there twice
abbrev pub column_fault_by : Sheet → TableColumn → Option ℕ → Option TableFault
column_fault_by sheet c None = if is_needed sheet c then Some (fault_where (row_place sheet sheet.header c) (fault.NoColumn c)) else None
column_fault_by sheet c (Some first) = second_fault sheet c (place_from (column_name c) (first + 1) (fields_of sheet.header.fields))

-- the fault of a column of the header
abbrev pub column_fault : Sheet → TableColumn → Option TableFault
column_fault sheet c = column_fault_by sheet c (place_of sheet c)

-- all faults of the header
abbrev pub header_faults : Sheet → List TableFault
header_faults sheet = flat_map (λ c. fault_if_any (column_fault sheet c)) all_columns

-- ---- a row

-- one of these rows is of this kind
abbrev pub is_set_in : Sheet → RowKind → List TableRow → Bool
is_set_in sheet k rows = list_any (is_kind sheet k) rows

-- the fault of a setting that one of the rows before has
abbrev pub kind_fault : Sheet → List TableRow → TableRow → RowKind → Option TableFault
kind_fault sheet before row k = if is_setting k && is_set_in sheet k before then Some (fault_where (row_place sheet row column.Kind) fault.Twice) else None

-- the fault of initial words: their subaddress is not one number, or they are no words
abbrev pub initial_fault : Sheet → TableRow → Option TableFault
initial_fault sheet row =
    if is_none (cell_number (cell sheet row column.Subaddress)) then Some (fault_where (row_place sheet row column.Subaddress) fault.OneSubaddress)
    else if is_none (cell_words (cell sheet row column.Initial)) then Some (fault_where (row_place sheet row column.Initial) fault.NotWords)
    else None

-- the fault of a text in a column that takes it
abbrev pub taken_fault : Sheet → List TableRow → TableRow → RowKind → TableColumn → Option TableFault
taken_fault sheet before row k column.Kind = kind_fault sheet before row k
taken_fault sheet before row k column.Initial = initial_fault sheet row
taken_fault sheet before row k _ = None

-- the fault of a row in a column, where there is text
abbrev pub cell_fault : Sheet → List TableRow → TableRow → RowKind → TableColumn → Option TableFault
cell_fault sheet before row k c =
    if has_no_text (cell sheet row c) then None
    else if takes k c then taken_fault sheet before row k c
    else Some (fault_where (row_place sheet row c) (fault.NotTaken c))

-- the faults of a row of this kind, column by column
abbrev pub kind_faults : Sheet → List TableRow → TableRow → Option RowKind → List TableFault
kind_faults sheet before row None = fault_where (row_place sheet row column.Kind) fault.UnknownKind ∷ []
kind_faults sheet before row (Some k) = flat_map (λ c. fault_if_any (cell_fault sheet before row k c)) all_columns

-- the last field that the row and the header both have
abbrev pub last_place : Sheet → TableRow → CellPlace
last_place sheet row = record { row = row.line; column = min (length (fields_of row.fields)) (length (fields_of sheet.header.fields)) }

-- the faults of a row, with the rows before it
abbrev pub row_faults : Sheet → List TableRow → TableRow → List TableFault
row_faults sheet before row =
    if length (fields_of row.fields) == length (fields_of sheet.header.fields) then kind_faults sheet before row (row_kind (cell sheet row column.Kind))
    else fault_where (last_place sheet row) fault.Fields ∷ []

-- the faults of rows, behind other rows
abbrev pub rows_faults : Sheet → List TableRow → List TableRow → List TableFault
rows_faults sheet before [] = []
rows_faults sheet before (row ∷ rows) = row_faults sheet before row ++ rows_faults sheet (before ++ row ∷ []) rows

-- ---- the table

-- these faults, or if there are none the others
abbrev pub or_others : List TableFault → List TableFault → List TableFault
or_others [] others = others
or_others (f ∷ fs) others = f ∷ fs

-- the faults of the table itself: those of the header, or if it has none those of the rows
unfoldable pub table_faults : Sheet → List TableFault
table_faults sheet = or_others (header_faults sheet) (rows_faults sheet [] sheet.rows.items)
