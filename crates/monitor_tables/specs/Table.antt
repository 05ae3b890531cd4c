-- The records of a table: those that its text says, and what of them is told.
use Rattle.std.specs.Prelude.{ℕ, ◌≡◌, Bool, false, ◌||◌, if◌then◌else◌, Option, Some, List, [], ◌∷◌, ◌++◌, map}
use Rattle.std.specs.Io.Chain.{chain_remaining}
use Rattle.csv.specs.declared.parser.Config.{Config}
use Rattle.csv.specs.declared.parser.Terminator.TheVariants.{Any}
use Rattle.csv.specs.declared.parser.State.{State}
use Rattle.csv.specs.declared.parser.State.TheVariants.{StartRecord}
use Rattle.csv.specs.declared.reader.Trim.TheVariants as trim
use Rattle.csv.specs.Reading.{Reached, AreRecords, Ready, default_config, reader_config, reader_state, reader_trim, source_of, strip_bom}
use Rattle.csv.specs.Records.{trimmed}
use Rattle.monitor_cells.specs.Cells.{is_some_text}
use Rattle.monitor_tables.specs.declared.recording.MonitorTable.{MonitorTable}
use Rattle.monitor_tables.specs.declared.records.TableRecords.{TableRecords}

-- how the library `csv` reads a table: a record ends in a line feed
abbrev pub table_config : Config
table_config = record default_config { terminator = Any 10 }

-- what it reads: the text, without a byte order mark, and one line feed more
abbrev pub table_text : List ℕ → List ℕ
table_text text = strip_bom (text ++ 10 ∷ [])

-- there is text in any field
abbrev pub is_some_record : List (List ℕ) → Bool
is_some_record [] = false
is_some_record (field ∷ fields) = is_some_text field || is_some_record fields

-- a record without text is left out
abbrev pub told_of : List (List ℕ) → List (List (List ℕ))
told_of fields = if is_some_record fields then fields ∷ [] else []

-- what is told of records: their fields without blanks at the ends
abbrev pub told_records : List (List (List ℕ)) → List (List (List ℕ))
told_records [] = []
told_records (fields ∷ records) = told_of (map trimmed fields) ++ told_records records

-- just these are the records of a text
pub record AreTableRecords (text : List ℕ) (told : List (List (List ℕ))) : Type 0 where
  pub records : List (List (List ℕ))
  pub are : AreRecords table_config StartRecord (table_text text) records
  pub told_is : told_records records ≡ told

-- the bytes that the source of a table has left, with the line feed behind them
abbrev pub bytes_left : {R : Type 0} → (R → Option (List ℕ)) → TableRecords R → Option (List ℕ)
bytes_left remaining t = source_of (chain_remaining remaining (λ s. Some s.now)) t.reader

-- just these records of a text were told, and its other records are those that will be read
pub record HasTold {R : Type 0} (remaining : R → Option (List ℕ)) (text : List ℕ) (told : List (List (List ℕ))) (t : TableRecords R) : Type 0 where
  pub config : reader_config t.reader ≡ table_config
  pub trims : reader_trim t.reader ≡ trim.None
  pub ready : Ready t.reader
  pub records : List (List (List ℕ))
  pub rest : List ℕ
  pub left : bytes_left remaining t ≡ Some rest
  pub reached : Reached table_config StartRecord (table_text text) records (reader_state t.reader) rest
  pub told_is : told_records records ≡ told

-- with these all its records are told
abbrev pub TellsAll : {R : Type 0} → (R → Option (List ℕ)) → TableRecords R → List (List (List ℕ)) → Type 0
TellsAll remaining t records = (text : List ℕ) (told : List (List (List ℕ))) → HasTold remaining text told t → AreTableRecords text (told ++ records)

-- just these are the first records of a text: those that a part of it says, from the front on
pub record AreFirstRecords (text : List ℕ) (told : List (List (List ℕ))) : Type 0 where
  pub records : List (List (List ℕ))
  pub state : State
  pub rest : List ℕ
  pub reached : Reached table_config StartRecord (table_text text) records state rest
  pub told_is : told_records records ≡ told

-- with these its first records are told
abbrev pub TellsFront : {R : Type 0} → (R → Option (List ℕ)) → TableRecords R → List (List (List ℕ)) → Type 0
TellsFront remaining t records = (text : List ℕ) (told : List (List (List ℕ))) → HasTold remaining text told t → AreFirstRecords text (told ++ records)

-- the records of a table of which the header is read
abbrev pub records_of : {R : Type 0} → MonitorTable R → TableRecords R
records_of table = table.records
