-- Whether the rows of a table of results are of the exchanges of a test.
use Rattle.std.specs.Prelude.{ℕ, ◌≡◌, ◌≢◌, ◌-◌, ◌<◌, ◌≤◌, Option, Some, None, List, [], ◌∷◌, length, map, get_or, codes, ⊤}
use Rattle.std.specs.List.{All}
use Rattle.std.specs.Str.Parse.{digits_value}
use Rattle.csv.specs.Records.{field_at}
use Rattle.csv_rows.specs.Rows.{AreRows}
use Rattle.bus_legal.specs.Description.{Description}
use Rattle.script_lines.specs.Digits.{word_of}
use Rattle.rt1553_results.specs.declared.asked.AskedColumns.{AskedColumns}
use Rattle.rt1553_results.specs.Rows.{rows_of}
use Rattle.rt1553_results.specs.Results.{IsExchangeNumber, IsColumn}

-- the commands of the exchanges of the acceptance test of P, in their order
abbrev pub commands_of : Description → List ℕ
commands_of P = map (λ row. row.exchange.command) (rows_of P)

-- the command word that a field says
abbrev pub command_said : List ℕ → Option ℕ
command_said (a ∷ b ∷ c ∷ d ∷ []) = word_of (a ∷ b ∷ c ∷ d ∷ [])
command_said _ = None

-- the field says the number of an exchange, whose command this is
pub record IsCommandAt (commands : List ℕ) (field : List ℕ) (command : ℕ) : Type 0 where
  pub number : IsExchangeNumber field
  pub there : digits_value 10 field ≤ length commands
  pub is : get_or commands (digits_value 10 field - 1) command ≡ command

-- the fields say the number of an exchange, and another command than the one of that exchange
abbrev pub IsOther : List ℕ → List ℕ → List ℕ → Type 0
IsOther commands number command = (asked : ℕ) × IsCommandAt commands number asked × (command_said command ≢ Some asked)

-- the fields of a row in two columns do
abbrev pub IsOtherRow : List ℕ → AskedColumns → List (List ℕ) → Type 0
IsOtherRow commands columns row = (number command : List ℕ) × (field_at row columns.number ≡ Some number) × (field_at row columns.command ≡ Some command) × IsOther commands number command

-- they do not
abbrev pub IsAskedRow : List ℕ → AskedColumns → List (List ℕ) → Type 0
IsAskedRow commands columns row = ¬ IsOtherRow commands columns row

-- one of some rows does
abbrev pub HasOtherRow : List ℕ → AskedColumns → List (List (List ℕ)) → Type 0
HasOtherRow commands columns rows = (k : ℕ) × (k < length rows) × IsOtherRow commands columns (get_or rows k [])

-- the columns `number` and `command` of a header
pub record AreAskedColumns (header : List (List ℕ)) (columns : AskedColumns) : Type 0 where
  pub number : IsColumn (codes "number") header columns.number
  pub command : IsColumn (codes "command") header columns.command

-- a row of the table says another command than the one that the test of P has for its number
pub record AsksAnother (P : Description) (text : List ℕ) : Type 0 where
  pub header : List (List ℕ)
  pub rows : List (List (List ℕ))
  pub columns : AskedColumns
  pub records : AreRows text (header ∷ rows)
  pub found : AreAskedColumns header columns
  pub other : HasOtherRow (commands_of P) columns rows

-- no row under this header does, if it has these columns
abbrev pub AskTheTest : Description → List (List (List ℕ)) → Type 0
AskTheTest P [] = ⊤
AskTheTest P (header ∷ rows) = (columns : AskedColumns) → AreAskedColumns header columns → All (IsAskedRow (commands_of P) columns) rows

-- no row of the table does, if it has these columns
abbrev pub AsksTheTest : Description → List ℕ → Type 0
AsksTheTest P text = (rows : List (List (List ℕ))) × AreRows text rows × AskTheTest P rows
