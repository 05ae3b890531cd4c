-- The full table as a sheet: its rows, and what their cells say.
use Rattle.std.proofs.Common.{◌≡◌, ℕ, zero, suc, ◌+◌, ◌-◌, ◌||◌, ◌&&◌, Bool, false, not, cond, Some, List, [], ◌∷◌, ◌++◌, length, get_or, take, drop, codes, refl, ap, sym, ◌∙◌, append_assoc, length-append, arith}
use Rattle.std.proofs.lemmas.List.{drop_at, take_at}
use Rattle.std.specs.Str.{str_eq_ignore_ascii_case, trim}
use Rattle.csv.specs.Records.{cut_from, field_at}
use Rattle.toml.specs.Data.{Data, Members}
use Rattle.rt1553_import.specs.declared.column.TableColumn.{TableColumn}
use Rattle.rt1553_import.specs.declared.column.TableColumn.TheVariants as column
use Rattle.rt1553_import.specs.declared.kind.RowKind.{RowKind}
use Rattle.rt1553_import.specs.declared.kind.RowKind.TheVariants as kind
use Rattle.rt1553_import.specs.declared.sheet.Sheet.{Sheet}
use Rattle.rt1553_import.specs.declared.sheet.TableRow.{TableRow}
use Rattle.rt1553_import.specs.declared.tree.Entry.{Entry}
use Rattle.rt1553_import.specs.declared.tree.Entry.TheVariants as entry
use Rattle.rt1553_import.specs.Columns.{column_name, place_from, place_of, trimmed_field, field_text, cell}
use Rattle.rt1553_import.specs.Kinds.{kind_name}
use Rattle.rt1553_import.specs.Cells.{has_no_text, cell_value}
use Rattle.rt1553_import.specs.Reading.{row_fields}
use Rattle.rt1553_import.specs.Tree.{member_put, with_text, is_kind, is_entry}
use Rattle.rt1553_toml.proofs.TreeFaults.{AllIn}
use Rattle.rt1553_export.specs.inner.Rows.{header_cells}

-- ---- records with these fields

abbrev pub joined : List (List ℕ) → List ℕ
joined [] = []
joined (f ∷ fs) = f ++ joined fs

abbrev pub ends_from : ℕ → List (List ℕ) → List ℕ
ends_from start [] = []
ends_from start (f ∷ fs) = (start + length f) ∷ ends_from (start + length f) fs

cut_joined : (before : List ℕ) (start : ℕ) (fs : List (List ℕ)) → start ≡ length before → cut_from start (ends_from start fs) (before ++ joined fs) ≡ fs
unfolding cut_from
cut_joined before start [] e = refl
cut_joined before start (f ∷ fs) e =
    let here : start + length f - start ≡ length f = omega arith in
    let rest : drop start (before ++ (f ++ joined fs)) ≡ f ++ joined fs = drop_at before (f ++ joined fs) start (sym e) in
    let first : take (start + length f - start) (drop start (before ++ (f ++ joined fs))) ≡ f = (λ j. take (here j) (rest j)) ∙ take_at f (joined fs) (length f) refl in
    let next : start + length f ≡ length (before ++ f) = omega (arith, e, length-append before f) in
    λ j. first j ∷ (ap (cut_from (start + length f) (ends_from (start + length f) fs)) (sym (append_assoc before f (joined fs))) ∙ cut_joined (before ++ f) (start + length f) fs next) j

abbrev pub row_of : List (List ℕ) → TableRow
row_of fs = record { line = 1; fields = record { bytes = joined fs; ends = ends_from 0 fs } }

pub row_made : (fs : List (List ℕ)) → row_fields (row_of fs) ≡ fs
row_made fs = cut_joined [] 0 fs refl

-- ---- cells of rows under the header

abbrev pub AllTrimmed : List (List ℕ) → Type 0
AllTrimmed fs = AllIn (λ t. trim t ≡ t) fs

abbrev pub column_place : TableColumn → ℕ
column_place column.Kind = 0
column_place column.Value = 1
column_place column.Subaddress = 2
column_place column.Words = 3
column_place column.Code = 4
column_place column.To = 5
column_place column.Initial = 6
column_place column.Legal = 7
column_place column.Name = 8

pub header_place : (c : TableColumn) → place_from (column_name c) 0 header_cells ≡ Some (column_place c)
header_place column.Kind = refl
header_place column.Value = refl
header_place column.Subaddress = refl
header_place column.Words = refl
header_place column.Code = refl
header_place column.To = refl
header_place column.Initial = refl
header_place column.Legal = refl
header_place column.Name = refl

trimmed_at : (fs : List (List ℕ)) (i : ℕ) → AllTrimmed fs → trimmed_field (field_at fs i) ≡ get_or fs i []
unfolding field_at
trimmed_at [] i h = refl
trimmed_at (f ∷ fs) zero h = h.0
trimmed_at (f ∷ fs) (suc i) h = trimmed_at fs i h.1

-- a cell whose text says a value
pub record Says (text : List ℕ) (d : Data) : Type 0 where
  pub some : has_no_text text ≡ false
  pub value : cell_value text ≡ d
  pub trimmed : trim text ≡ text

pub text_put : (key text : List ℕ) (d : Data) (ms : Members) → Says text d → with_text key text ms ≡ member_put key d ms
text_put key text d ms h = ap (λ b. cond b ms (member_put key (cell_value text) ms)) h.some ∙ ap (λ x. member_put key x ms) h.value

-- the kinds of row that a text and initial words make
abbrev pub is_entry_by : Entry → List ℕ → List ℕ → Bool
is_entry_by entry.Rule kind initial = (str_eq_ignore_ascii_case kind (codes "receive") || str_eq_ignore_ascii_case kind (codes "transmit")) || str_eq_ignore_ascii_case kind (codes "both")
is_entry_by entry.Mode kind initial = str_eq_ignore_ascii_case kind (codes "mode")
is_entry_by entry.Initial kind initial = str_eq_ignore_ascii_case kind (codes "transmit") && not (has_no_text initial)

module _ (s : Sheet) (header : row_fields s.header ≡ header_cells) where
  pub place_is : (c : TableColumn) → place_of s c ≡ Some (column_place c)
  place_is c = ap (place_from (column_name c) 0) header ∙ header_place c

  pub cell_is : (row : TableRow) (fs : List (List ℕ)) → row_fields row ≡ fs → AllTrimmed fs → (c : TableColumn) → cell s row c ≡ get_or fs (column_place c) []
  cell_is row fs same trimmed c = (λ j. field_text (same j) (place_is c j)) ∙ trimmed_at fs (column_place c) trimmed

  pub kind_is : (row : TableRow) (text : List ℕ) → cell s row column.Kind ≡ text → (k : RowKind) → is_kind s k row ≡ str_eq_ignore_ascii_case text (kind_name k)
  kind_is row text is k = ap (λ t. str_eq_ignore_ascii_case t (kind_name k)) is

  pub entry_is : (row : TableRow) (text initial : List ℕ) → cell s row column.Kind ≡ text → cell s row column.Initial ≡ initial → (e : Entry) → is_entry s e row ≡ is_entry_by e text initial
  entry_is row text initial is held entry.Rule = λ j. (kind_is row text is kind.Receive j || kind_is row text is kind.Transmit j) || kind_is row text is kind.Both j
  entry_is row text initial is held entry.Mode = kind_is row text is kind.Mode
  entry_is row text initial is held entry.Initial = λ j. kind_is row text is kind.Transmit j && not (has_no_text (held j))
