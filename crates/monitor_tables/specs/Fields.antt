-- The fields of a row.
use Rattle.std.specs.Prelude.{ℕ, ◌≡◌, ◌<◌, ◌≤◌, ◌+◌, ◌-◌, ◌^◌, ◌==◌, min, Bool, true, false, List, [], length, Option, Some, None, ⊤}
use Rattle.std.specs.List.{list_any}
use Rattle.csv_rows.specs.declared.place.CellPlace.{CellPlace}
use Rattle.monitor_tables.specs.declared.fault.MonitorFault.{MonitorFault}
use Rattle.monitor_tables.specs.declared.fault.MonitorFault.TheVariants.{NotCsv, Extra, Memory, Read}
use Rattle.csv.specs.Records.{field_at}
use Rattle.monitor_cells.specs.Cells.{is_some_text}

-- the text that there is, or none
abbrev pub or_no_text : Option (List ℕ) → List ℕ
or_no_text None = []
or_no_text (Some text) = text

-- the text in a field of a row; none where there is no such field
abbrev pub record_text : List (List ℕ) → ℕ → List ℕ
record_text fields field = or_no_text (field_at fields field)

-- a field by its number from 0, on a line
abbrev pub field_placed : ℕ → ℕ → CellPlace
field_placed line field = record { row = line; column = min (field + 1) (2 ^ 64 - 1) }

-- there is a line feed in a text
abbrev pub has_feed : List ℕ → Bool
has_feed text = list_any (λ b. b == 10) text

-- no field of a record has one
abbrev pub HasNoFeed : List (List ℕ) → Type 0
HasNoFeed fields = (n : ℕ) → n < length fields → has_feed (record_text fields n) ≡ false

-- this field has one, and none before it
pub record IsFedField (fields : List (List ℕ)) (n : ℕ) : Type 0 where
  pub within : n < length fields
  pub feed : has_feed (record_text fields n) ≡ true
  pub first : (k : ℕ) → k < n → has_feed (record_text fields k) ≡ false

-- no field beyond so many has text
abbrev pub HasNoExtra : List (List ℕ) → ℕ → Type 0
HasNoExtra fields width = (n : ℕ) → width ≤ n → n < length fields → is_some_text (record_text fields n) ≡ false

-- this field does, and none before it
pub record IsExtraField (fields : List (List ℕ)) (width n : ℕ) : Type 0 where
  pub beyond : width ≤ n
  pub text : is_some_text (record_text fields n) ≡ true
  pub first : (k : ℕ) → width ≤ k → k < n → is_some_text (record_text fields k) ≡ false

-- why a record, on a line, has more than so many fields
abbrev pub IsExtraFault : List (List ℕ) → ℕ → ℕ → MonitorFault → Type 0
IsExtraFault fields line width fault = (n : ℕ) × (fault ≡ Extra (field_placed line n)) × IsExtraField fields width n

-- Why no record comes after these fields: the first of them that has a line feed, on some line. A refused growth of memory and a failed read
-- say nothing of them.
abbrev pub IsRecordFault : List (List ℕ) → MonitorFault → Type 0
IsRecordFault fields (NotCsv place) = (line : ℕ) × (n : ℕ) × (place ≡ field_placed line n) × IsFedField fields n
IsRecordFault fields Memory = ⊤
IsRecordFault fields Read = ⊤
IsRecordFault fields _ = ⊥
