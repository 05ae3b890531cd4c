-- The commands of the rows of a test, and rows of a table that are compared with them.
use Rattle.std.proofs.Common.{◌≡◌, ℕ, ◌+◌, ◌-◌, ◌<◌, ◌≤◌, List, [], ◌∷◌, ◌++◌, length, map, take, drop, get_or, sym, ap, subst, ◌∙◌, append_assoc, append-nil, arith}
use Rattle.std.specs.List.{All}
use Rattle.std.proofs.lemmas.List.{take_all, length-drop}
use Rattle.std.proofs.lemmas.List.Elements.{All-push}
use Rattle.bus_legal.specs.Description.{Description}
use Rattle.csv_rows.specs.declared.rows.CsvRow.{CsvRow}
use Rattle.csv_rows.specs.Rows.{record_fields, AreRows}
use Rattle.rt1553_results.specs.declared.rows.Rows.{Rows}
use Rattle.rt1553_results.specs.declared.asked.AskedColumns.{AskedColumns}
use Rattle.rt1553_results.specs.Rows.{Answered}
use Rattle.rt1553_results.specs.Left.{AreLeft}
use Rattle.rt1553_results.specs.Asked.{commands_of, IsAskedRow, AreAskedColumns}
use Rattle.rt1553_results.proofs.ResultLaws.{under_header, row_more}

abbrev commands_in : List Answered → List ℕ
commands_in rows = map (λ row. row.exchange.command) rows

-- the commands of the rows that were played, and with those that are left they are all
pub record SoFarAsked (P : Description) (rows : Rows) (commands : List ℕ) : Type 0 where
  pub left : List Answered
  pub next : ℕ
  pub are_left : AreLeft rows next left
  pub all : commands ++ commands_in left ≡ commands_of P

pub asked_more : (P : Description) (rows rows' : Rows) (commands : List ℕ) (row : Answered) (rest : List Answered) (s : SoFarAsked P rows commands) → s.left ≡ row ∷ rest → AreLeft rows' (s.next + 1) rest
    → SoFarAsked P rows' (commands ++ row.exchange.command ∷ [])
asked_more P rows rows' commands row rest s split after = record {
  left = rest;
  next = s.next + 1;
  are_left = after;
  all = append_assoc commands (row.exchange.command ∷ []) (commands_in rest) ∙ ap (λ left. commands ++ commands_in left) (sym split) ∙ s.all;
}

pub asked_all : (P : Description) (rows : Rows) (commands : List ℕ) (s : SoFarAsked P rows commands) → s.left ≡ [] → commands ≡ commands_of P
asked_all P rows commands s over = sym (append-nil commands) ∙ ap (λ left. commands ++ commands_in left) (sym over) ∙ s.all

-- the rows under a header, as a table
pub asked_rows : (text : List ℕ) (rows : List CsvRow) (first : CsvRow) → 0 < length rows → first ≡ get_or rows 0 first → AreRows text (map record_fields rows)
    → AreRows text (record_fields first ∷ map record_fields (take (length rows - 1) (drop 1 rows)))
asked_rows text rows first some is records =
    let whole : take (length rows - 1) (drop 1 rows) ≡ drop 1 rows = take_all (length rows - 1) (drop 1 rows) (omega (arith, length-drop 1 rows)) in
    subst (AreRows text) (under_header rows first some is ∙ ap (λ rest. record_fields first ∷ map record_fields rest) (sym whole)) records

pub one_place : (header : List (List ℕ)) (a b : AskedColumns) → AreAskedColumns header a → AreAskedColumns header b → a ≡ b
one_place header a b is other =
    let number = sym (is.number.alone b.number other.number.there) in
    let command = sym (is.command.alone b.command other.command.there) in
    λ j. record { number = number j; command = command j }

pub asked_on : (commands : List ℕ) (columns : AskedColumns) (rows : List CsvRow) (k : ℕ) (row : CsvRow) → k < length rows → row ≡ get_or rows k row → IsAskedRow commands columns (record_fields row)
    → All (IsAskedRow commands columns) (map record_fields (take k rows)) → All (IsAskedRow commands columns) (map record_fields (take (k + 1) rows))
asked_on commands columns rows k row few is asked before =
    subst (All (IsAskedRow commands columns)) (row_more rows k row few is) (All-push (IsAskedRow commands columns) (map record_fields (take k rows)) (record_fields row) before asked)

pub asked_whole : (commands : List ℕ) (columns : AskedColumns) (rows : List CsvRow) (k : ℕ) → length rows ≤ k → All (IsAskedRow commands columns) (map record_fields (take k rows))
    → All (IsAskedRow commands columns) (map record_fields rows)
asked_whole commands columns rows k over all = subst (λ rows. All (IsAskedRow commands columns) (map record_fields rows)) (take_all k rows over) all
