-- The rows of a table.
use Rattle.std.specs.Prelude.{ℕ, ◌≡◌, Bool, true, false, List, [], ◌∷◌, map, filter, ⊤}
use Rattle.std.specs.List.{list_any}
use Rattle.csv.specs.declared.parser.Config.{Config}
use Rattle.csv.specs.declared.parser.State.TheVariants.{StartRecord}
use Rattle.csv.specs.Reading.{AreRecords, default_config, strip_bom}
use Rattle.csv.specs.Records.{fields_of, trimmed}
use Rattle.csv_rows.specs.declared.rows.CsvRow.{CsvRow}
use Rattle.csv_rows.specs.declared.rows.CsvFault.{CsvFault}
use Rattle.csv_rows.specs.declared.rows.CsvFault.TheVariants.{NotCsv, Memory}
use Rattle.csv_rows.specs.Csv.{IsCsv, IsBrokenAt}
use Rattle.csv_rows.specs.Delimiter.{delimiter_of}

-- how the library `csv` reads a text with this delimiter
abbrev pub csv_config : ℕ → Config
csv_config d = record default_config { delimiter = d }

-- the fields of a row
abbrev pub record_fields : CsvRow → List (List ℕ)
record_fields row = fields_of row.fields

-- the field has text
abbrev pub has_bytes : List ℕ → Bool
has_bytes [] = false
has_bytes (b ∷ bs) = true

-- one of the fields has text
abbrev pub says_something : List (List ℕ) → Bool
says_something row = list_any has_bytes row

-- records without the blanks at the ends of their fields, but for those of which nothing is left
abbrev pub kept_rows : List (List (List ℕ)) → List (List (List ℕ))
kept_rows records = filter says_something (map (map trimmed) records)

-- these are what is kept of the records of a text, as the library `csv` reads them
pub record AreKeptRecords (d : ℕ) (text : List ℕ) (rows : List (List (List ℕ))) : Type 0 where
  pub records : List (List (List ℕ))
  pub read : AreRecords (csv_config d) StartRecord text records
  pub kept : rows ≡ kept_rows records

-- the text, but for a byte order mark, is CSV with this delimiter, and these are the fields of its rows
pub record AreRowsBy (d : ℕ) (text : List ℕ) (rows : List (List (List ℕ))) : Type 0 where
  pub csv : IsCsv d (strip_bom text)
  pub are : AreKeptRecords d (strip_bom text) rows

-- why a text has no rows with this delimiter; want of memory says nothing of it
abbrev pub AreNoRowsBy : ℕ → List ℕ → CsvFault → Type 0
AreNoRowsBy d text (NotCsv place) = IsBrokenAt d (strip_bom text) place
AreNoRowsBy d text Memory = ⊤

-- these are the fields of the rows of a text, with the delimiter that it has
abbrev pub AreRows : List ℕ → List (List (List ℕ)) → Type 0
AreRows text rows = AreRowsBy (delimiter_of text) text rows

-- why a text has no rows
abbrev pub AreNoRows : List ℕ → CsvFault → Type 0
AreNoRows text fault = AreNoRowsBy (delimiter_of text) text fault
