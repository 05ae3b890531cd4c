-- The columns of a monitor's table.
use Rattle.std.specs.Prelude.{ℕ, zero, suc, ◌≡◌, ◌<◌, Bool, true, false, not, ◌&&◌, ◌||◌, if◌then◌else◌, Option, MatchOption, List, [], ◌∷◌, ◌++◌, length, codes}
use Rattle.monitor_tables.specs.declared.column.MonitorColumn.{MonitorColumn}
use Rattle.monitor_tables.specs.declared.column.MonitorColumn.TheVariants as column
use Rattle.monitor_tables.specs.declared.header.TableLayout.{TableLayout}
use Rattle.monitor_tables.specs.declared.header.TableLayout.TheVariants.{Words, Messages}
use Rattle.monitor_tables.specs.declared.messages.MessageColumns.{MessageColumns}
use Rattle.monitor_tables.specs.declared.words.WordColumns.{WordColumns}
use Rattle.monitor_tables.specs.declared.fault.MonitorFault.{MonitorFault}
use Rattle.monitor_tables.specs.declared.fault.MonitorFault.TheVariants.{NoColumn, TwoColumns}
use Rattle.rt1553_files.specs.Printable.{Shows}
use Rattle.std.specs.String.{string_bytes}
use Rattle.monitor_cells.specs.Cells.{is_headed, is_some_text}
use Rattle.monitor_tables.specs.declared.header.LeftOutColumn.{LeftOutColumn}
use Rattle.monitor_tables.specs.Fields.{record_text, field_placed}

-- the column's header
abbrev pub monitor_column_name : MonitorColumn → List ℕ
monitor_column_name column.Time = codes "time"
monitor_column_name column.Bus = codes "bus"
monitor_column_name column.Sync = codes "sync"
monitor_column_name column.Word = codes "word"
monitor_column_name column.Error = codes "error"
monitor_column_name column.Command = codes "command"
monitor_column_name column.Command2 = codes "command2"
monitor_column_name column.Data = codes "data"
monitor_column_name column.Status = codes "status"
monitor_column_name column.Status2 = codes "status2"

-- no field of a header has this name, small or capital
abbrev pub IsNotNamed : List ℕ → List (List ℕ) → Type 0
IsNotNamed name fields = (k : ℕ) → k < length fields → is_headed name (record_text fields k) ≡ false

-- this field has it, and no other
pub record IsNamedAt (name : List ℕ) (fields : List (List ℕ)) (place : ℕ) : Type 0 where
  pub here : is_headed name (record_text fields place) ≡ true
  pub within : place < length fields
  pub alone : (k : ℕ) → k < length fields → is_headed name (record_text fields k) ≡ true → k ≡ place

-- two fields have it
pub record IsNamedTwice (name : List ℕ) (fields : List (List ℕ)) : Type 0 where
  pub first : ℕ
  pub second : ℕ
  pub in_order : first < second
  pub within : second < length fields
  pub first_is : is_headed name (record_text fields first) ≡ true
  pub second_is : is_headed name (record_text fields second) ≡ true

-- why it is not known where a column is
abbrev pub IsTwice : List ℕ → List (List ℕ) → MonitorFault → Type 0
IsTwice name fields (TwoColumns place column) = IsNamedTwice name fields
IsTwice name fields _ = ⊥

-- why a column is not found that has to be there
abbrev pub IsNoColumnFound : List ℕ → List (List ℕ) → MonitorFault → Type 0
IsNoColumnFound name fields (NoColumn place column) = IsNotNamed name fields
IsNoColumnFound name fields fault = IsTwice name fields fault

-- this field has the name, and no other; or none has it
abbrev pub IsFoundAt : List ℕ → List (List ℕ) → Option ℕ → Type 0
IsFoundAt name fields place = MatchOption place (IsNotNamed name fields) (IsNamedAt name fields)

-- the columns of a table of words
pub record AreWordColumns (fields : List (List ℕ)) (columns : WordColumns) : Type 0 where
  pub time : IsNamedAt (codes "time") fields columns.time
  pub bus : IsNamedAt (codes "bus") fields columns.bus
  pub sync : IsNamedAt (codes "sync") fields columns.sync
  pub error : IsFoundAt (codes "error") fields columns.error
  pub width : columns.width ≡ length fields

-- the columns of a table of messages
pub record AreMessageColumns (fields : List (List ℕ)) (columns : MessageColumns) : Type 0 where
  pub time : IsNamedAt (codes "time") fields columns.time
  pub bus : IsNamedAt (codes "bus") fields columns.bus
  pub command2 : IsFoundAt (codes "command2") fields columns.command2
  pub words : IsFoundAt (codes "data") fields columns.words
  pub status : IsFoundAt (codes "status") fields columns.status
  pub status2 : IsFoundAt (codes "status2") fields columns.status2
  pub error : IsFoundAt (codes "error") fields columns.error
  pub width : columns.width ≡ length fields

-- what the rows of a table are: words, if the header names `word` and not `command`; messages, if it names `command` and not `word`
abbrev pub IsLayoutOf : List (List ℕ) → TableLayout → Type 0
IsLayoutOf fields (Words columns) = IsNamedAt (codes "word") fields columns.word × IsNotNamed (codes "command") fields × AreWordColumns fields columns
IsLayoutOf fields (Messages columns) = IsNamedAt (codes "command") fields columns.command × IsNotNamed (codes "word") fields × AreMessageColumns fields columns

-- ---- columns that are left out

-- the columns that count
abbrev pub columns_of : TableLayout → List MonitorColumn
columns_of (Words columns) = column.Time ∷ column.Bus ∷ column.Sync ∷ column.Word ∷ column.Error ∷ []
columns_of (Messages columns) = column.Time ∷ column.Bus ∷ column.Command ∷ column.Command2 ∷ column.Data ∷ column.Status ∷ column.Status2 ∷ column.Error ∷ []

-- a header is the name of one of these
abbrev pub names_one : List MonitorColumn → List ℕ → Bool
names_one [] text = false
names_one (c ∷ columns) text = is_headed (monitor_column_name c) text || names_one columns text

-- a field of the header is left out: there is text in it, and it names no column that counts
abbrev pub is_left_out : TableLayout → List ℕ → Bool
is_left_out layout text = is_some_text text && not (names_one (columns_of layout) text)

-- the numbers of the fields that are left out, of the first n
abbrev pub left_fields : TableLayout → List (List ℕ) → ℕ → List ℕ
left_fields layout fields zero = []
left_fields layout fields (suc n) = left_fields layout fields n ++ (if is_left_out layout (record_text fields n) then n ∷ [] else [])

-- the column of a field of the header, which is on this line
pub record IsLeftOutColumn (fields : List (List ℕ)) (line n : ℕ) (left : LeftOutColumn) : Type 0 where
  pub place : left.place ≡ field_placed line n
  pub name : Shows (record_text fields n) (string_bytes left.name)

-- these are the columns of these fields
abbrev pub AreLeftOutColumns : List (List ℕ) → ℕ → List ℕ → List LeftOutColumn → Type 0
AreLeftOutColumns fields line [] [] = Unit {0}
AreLeftOutColumns fields line (n ∷ ns) (left ∷ lefts) = IsLeftOutColumn fields line n left × AreLeftOutColumns fields line ns lefts
AreLeftOutColumns fields line _ _ = ⊥

-- just these columns of a header, which is on this line, are left out
abbrev pub AreLeftOut : TableLayout → List (List ℕ) → ℕ → List LeftOutColumn → Type 0
AreLeftOut layout fields line lefts = AreLeftOutColumns fields line (left_fields layout fields (length fields)) lefts
