-- Why a table of results is refused.
use Rattle.std.specs.Prelude.{ℕ, ◌≡◌, ◌≢◌, ◌⊎◌, ◌<◌, nat_eq, Option, Some, None, IsSome, List, [], ◌∷◌, ◌++◌, length, map, codes, ⊤}
use Rattle.std.specs.List.{IsDistinct}
use Rattle.std.specs.Map.{lookup}
use Rattle.csv.specs.Records.{field_at}
use Rattle.csv_rows.specs.declared.rows.CsvFault.{CsvFault}
use Rattle.csv_rows.specs.declared.rows.CsvFault.TheVariants as csv
use Rattle.csv_rows.specs.Rows.{AreRows, AreNoRows}
use Rattle.rt1553_results.specs.declared.results.ResultsFault.{ResultsFault}
use Rattle.rt1553_results.specs.declared.results.ResultsFault.TheVariants as fault
use Rattle.rt1553_results.specs.declared.results.Columns.{Columns}
use Rattle.rt1553_results.specs.Results.{reply_said, IsExchangeNumber, AreColumns, IsRead, AreResultsRead}

-- the same fault, of a table of results
abbrev pub results_fault_of : CsvFault → ResultsFault
results_fault_of (csv.NotCsv place) = fault.NotCsv place
results_fault_of csv.Memory = fault.Memory

-- no field of the header has this name
abbrev pub IsMissing : List ℕ → List (List ℕ) → Type 0
IsMissing name header = (k : ℕ) → field_at header k ≢ Some name

-- two fields of the header have this name
abbrev pub AreTwo : List ℕ → List (List ℕ) → Type 0
AreTwo name header = (j k : ℕ) × (j < k) × (field_at header j ≡ Some name) × (field_at header k ≡ Some name)

-- why the column of this name is not found
abbrev pub IsNoColumn : List ℕ → List (List ℕ) → ResultsFault → Type 0
IsNoColumn name header (fault.NoColumn place told) = (told.now ≡ name) × IsMissing name header
IsNoColumn name header (fault.TwoColumns place told) = (told.now ≡ name) × AreTwo name header
IsNoColumn name header _ = ⊥

-- why one of the columns is not found
abbrev pub AreNoColumns : List (List ℕ) → ResultsFault → Type 0
AreNoColumns header f = IsNoColumn (codes "number") header f ⊎ IsNoColumn (codes "reply") header f

-- both columns are among the fields of a row
abbrev pub HasPlaces : Columns → Type 0
HasPlaces columns = (columns.number < columns.width) × (columns.reply < columns.width)

-- the field of a row in the column `number` is no number of an exchange
abbrev pub HasNoNumber : Columns → List (List ℕ) → Type 0
HasNoNumber columns row = (field : List ℕ) × (field_at row columns.number ≡ Some field) × ¬ IsExchangeNumber field

-- that in the column `reply` is no reply
abbrev pub HasNoReply : Columns → List (List ℕ) → Type 0
HasNoReply columns row = (field : List ℕ) × (field_at row columns.reply ≡ Some field) × (reply_said field ≡ None)

-- why a row says nothing, whatever the rows before it
abbrev pub IsNotRead : Columns → List (List ℕ) → ResultsFault → Type 0
IsNotRead columns row (fault.Fields place) = length row ≢ columns.width
IsNotRead columns row (fault.Number place) = (length row ≡ columns.width) × HasNoNumber columns row
IsNotRead columns row (fault.Reply place) = (length row ≡ columns.width) × HasNoReply columns row
IsNotRead columns row _ = ⊥

-- why what a row says is not kept, by what was kept of its number: an earlier row has it
abbrev pub IsNotKept : Option (List ℕ) → ResultsFault → Type 0
IsNotKept before (fault.Twice place) = IsSome before
IsNotKept before fault.Memory = ⊤
IsNotKept before _ = ⊥

-- a row that says nothing, or the number of an earlier one
abbrev pub IsWrongRow : Columns → List (ℕ × List ℕ) → List (List ℕ) → ResultsFault → Type 0
IsWrongRow columns pairs row f = IsNotRead columns row f ⊎ ((pair : ℕ × List ℕ) × IsRead columns row pair × IsNotKept (lookup (nat_eq pair.0) pairs) f)

-- the first wrong row of a table: the header has the columns, and the rows before it say something, each of another exchange
pub record HasWrongRow (text : List ℕ) (f : ResultsFault) : Type 0 where
  pub header : List (List ℕ)
  pub before : List (List (List ℕ))
  pub row : List (List ℕ)
  pub after : List (List (List ℕ))
  pub columns : Columns
  pub pairs : List (ℕ × List ℕ)
  pub records : AreRows text (header ∷ before ++ row ∷ after)
  pub found : AreColumns header columns
  pub read : AreResultsRead columns before pairs
  pub once : IsDistinct nat_eq (map (λ pair. pair.0) pairs)
  pub wrong : IsWrongRow columns pairs row f

-- the header of a table has not the columns
pub record HasWrongHeader (text : List ℕ) (f : ResultsFault) : Type 0 where
  pub header : List (List ℕ)
  pub rows : List (List (List ℕ))
  pub records : AreRows text (header ∷ rows)
  pub wrong : AreNoColumns header f

-- why a text is no table of results; want of memory says nothing of it
abbrev pub AreNoResults : List ℕ → ResultsFault → Type 0
AreNoResults text (fault.NoHeader place) = AreRows text []
AreNoResults text (fault.NoColumn place name) = HasWrongHeader text (fault.NoColumn place name)
AreNoResults text (fault.TwoColumns place name) = HasWrongHeader text (fault.TwoColumns place name)
AreNoResults text (fault.NotCsv place) = AreNoRows text (csv.NotCsv place)
AreNoResults text fault.Memory = ⊤
AreNoResults text f = HasWrongRow text f
