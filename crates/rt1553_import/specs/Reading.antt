-- How a text is read as a table.
use Rattle.std.specs.Prelude.{◌≡◌, ℕ, List, [], ◌∷◌, map}
use Rattle.csv.specs.Records.{fields_of}
use Rattle.csv_rows.specs.Rows.{AreRows}
use Rattle.rt1553_import.specs.declared.sheet.Sheet.{Sheet}
use Rattle.rt1553_import.specs.declared.sheet.TableRow.{TableRow}

-- the fields of a row
abbrev pub row_fields : TableRow → List (List ℕ)
row_fields row = fields_of row.fields

-- the first record is the header, and the others are the rows; without a record the header has no column
abbrev pub HasRecords : List (List (List ℕ)) → Sheet → Type 0
HasRecords [] sheet = (row_fields sheet.header ≡ []) × (sheet.rows.items ≡ [])
HasRecords (header ∷ rows) sheet = (row_fields sheet.header ≡ header) × (map row_fields sheet.rows.items ≡ rows)

-- the text is CSV, and its records are those of the table
pub record IsSheetOf (text : List ℕ) (sheet : Sheet) : Type 0 where
  pub records : List (List (List ℕ))
  pub read : AreRows text records
  pub has : HasRecords records sheet
