-- A text is one table: the tables whose records are those of the text have one tree.
use Rattle.std.proofs.Common.{◌≡◌, ℕ, Bool, true, false, cond, ◌||◌, ◌&&◌, not, Option, Some, None, List, [], ◌∷◌, map, filter, codes, refl, sym, ap, subst, ◌∙◌}
use Rattle.std.specs.List.{find}
use Rattle.std.specs.Str.{str_to_ascii_lowercase, str_eq_ignore_ascii_case}
use Rattle.csv.specs.Machine.{Read, next_record}
use Rattle.csv.specs.Reading.{Reached, AreRecords, strip_bom}
use Rattle.csv.specs.declared.parser.Config.{Config}
use Rattle.csv.specs.declared.parser.State.{State}
use Rattle.csv.specs.declared.parser.State.TheVariants.{StartRecord}
use Rattle.toml.specs.Data.{Data, array, table, no_members}
use Rattle.toml.specs.View.{items_of}
use Rattle.rt1553_import.specs.declared.column.TableColumn.{TableColumn}
use Rattle.rt1553_import.specs.declared.column.TableColumn.TheVariants as column
use Rattle.rt1553_import.specs.declared.kind.RowKind.{RowKind}
use Rattle.rt1553_import.specs.declared.kind.RowKind.TheVariants as kind
use Rattle.rt1553_import.specs.declared.sheet.Sheet.{Sheet}
use Rattle.rt1553_import.specs.declared.sheet.TableRow.{TableRow}
use Rattle.rt1553_import.specs.declared.tree.Entry.{Entry}
use Rattle.rt1553_import.specs.declared.tree.Entry.TheVariants as entry
use Rattle.rt1553_import.specs.Columns.{column_name, place_from, field_text, cell}
use Rattle.rt1553_import.specs.Kinds.{kind_name}
use Rattle.rt1553_import.specs.Cells.{has_no_text}
use Rattle.csv_rows.specs.Delimiter.{delimiter_of}
use Rattle.csv_rows.specs.Rows.{csv_config, kept_rows}
use Rattle.rt1553_import.specs.Reading.{row_fields, HasRecords, IsSheetOf}
use Rattle.rt1553_import.specs.Tree.{member_put, with_text, with_entries, words_data, is_kind, is_entry, entry_data, entries_of, value_in, setting_text, table_tree}

-- ---- a text has no other records

ends_or_goes : (cfg : Config) (s s2 : State) (xs ys : List ℕ) (p : Read) → s ≡ s2 → xs ≡ ys → next_record cfg s2 [] [] ys ≡ None → next_record cfg s [] [] xs ≡ Some p → ⊥
ends_or_goes cfg s s2 xs ys p e f none some =
    let same : next_record cfg s [] [] xs ≡ next_record cfg s2 [] [] ys = λ j. next_record cfg (e j) [] [] (f j) in
    let clash : None ≡ Some p = sym none ∙ sym same ∙ some in
    cc

one_read : (p q : Read) (o : Option Read) → o ≡ Some p → o ≡ Some q → p ≡ q
one_read p q o a b = let both : Some p ≡ Some q = sym a ∙ b in cc both

records_one : (cfg : Config) (s : State) (xs : List ℕ) (ps qs : List (List (List ℕ))) → AreRecords cfg s xs ps → AreRecords cfg s xs qs → ps ≡ qs
unfolding Reached
records_one cfg s xs [] [] a b = refl
records_one cfg s xs [] (q ∷ qs) a b = absurd (ends_or_goes cfg s a.0 xs a.1 b.2.0 a.2.0 a.2.1 a.3 b.2.1)
records_one cfg s xs (p ∷ ps) [] a b = absurd (ends_or_goes cfg s b.0 xs b.1 a.2.0 b.2.0 b.2.1 b.3 a.2.1)
records_one cfg s xs (p ∷ ps) (q ∷ qs) a b =
    let same : a.2.0 ≡ b.2.0 = one_read a.2.0 b.2.0 (next_record cfg s [] [] xs) a.2.1 b.2.1 in
    let left : AreRecords cfg b.2.0.1 b.2.0.2 ps = subst (λ r. AreRecords cfg r.1 r.2 ps) same (a.0, a.1, a.2.3, a.3) in
    let first : p ≡ q = a.2.2 ∙ ap (λ r. r.0) same ∙ sym b.2.2 in
    λ j. first j ∷ records_one cfg b.2.0.1 b.2.0.2 ps qs left (b.0, b.1, b.2.3, b.3) j

-- ---- rows with the same fields

abbrev RowsAlike : List TableRow → List TableRow → Type 0
RowsAlike [] [] = Unit {0}
RowsAlike (r ∷ rs) (q ∷ qs) = (row_fields r ≡ row_fields q) × RowsAlike rs qs
RowsAlike _ _ = ⊥

alike_from : (rs qs : List TableRow) → map row_fields rs ≡ map row_fields qs → RowsAlike rs qs
alike_from [] [] e = tt
alike_from [] (q ∷ qs) e = cc e
alike_from (r ∷ rs) [] e = cc e
alike_from (r ∷ rs) (q ∷ qs) e =
    let here : row_fields r ≡ row_fields q = cc e in
    let more : map row_fields rs ≡ map row_fields qs = cc e in
    (here, alike_from rs qs more)

-- two tables whose headers have the same fields
module _ (a b : Sheet) (header : row_fields a.header ≡ row_fields b.header) where
  cell_alike : (r q : TableRow) → row_fields r ≡ row_fields q → (c : TableColumn) → cell a r c ≡ cell b q c
  cell_alike r q same c = λ j. field_text (same j) (place_from (column_name c) 0 (header j))

  kind_alike : (k : RowKind) (r q : TableRow) → row_fields r ≡ row_fields q → is_kind a k r ≡ is_kind b k q
  kind_alike k r q same = ap (λ t. str_eq_ignore_ascii_case t (kind_name k)) (cell_alike r q same column.Kind)

  is_entry_alike : (e : Entry) (r q : TableRow) → row_fields r ≡ row_fields q → is_entry a e r ≡ is_entry b e q
  is_entry_alike entry.Rule r q same = λ j. (kind_alike kind.Receive r q same j || kind_alike kind.Transmit r q same j) || kind_alike kind.Both r q same j
  is_entry_alike entry.Mode r q same = kind_alike kind.Mode r q same
  is_entry_alike entry.Initial r q same = λ j. kind_alike kind.Transmit r q same j && not (has_no_text (cell_alike r q same column.Initial j))

  entry_alike : (e : Entry) (r q : TableRow) → row_fields r ≡ row_fields q → entry_data a e r ≡ entry_data b e q
  entry_alike entry.Rule r q same =
      let at = cell_alike r q same in
      λ j. table (with_text (codes "legal") (at column.Legal j) (with_text (codes "to") (str_to_ascii_lowercase (at column.To j))
      (with_text (codes "counts") (at column.Words j) (with_text (codes "subaddresses") (at column.Subaddress j) (with_text (codes "direction") (str_to_ascii_lowercase (at column.Kind j)) no_members)))))
  entry_alike entry.Mode r q same =
      let at = cell_alike r q same in
      λ j. table (with_text (codes "legal") (at column.Legal j) (with_text (codes "to") (str_to_ascii_lowercase (at column.To j)) (with_text (codes "codes") (at column.Code j) no_members)))
  entry_alike entry.Initial r q same =
      let at = cell_alike r q same in
      λ j. table (member_put (codes "words") (array (items_of (words_data (at column.Initial j)))) (with_text (codes "subaddress") (at column.Subaddress j) no_members))

  kept_alike : (s t : Bool) (rs qs : List TableRow) (r q : TableRow) (f g : TableRow → Data) → s ≡ t → f r ≡ g q → map f rs ≡ map g qs → map f (cond s (r ∷ rs) rs) ≡ map g (cond t (q ∷ qs) qs)
  kept_alike true true rs qs r q f g same here more = λ j. here j ∷ more j
  kept_alike false false rs qs r q f g same here more = more
  kept_alike true false rs qs r q f g same here more = cc same
  kept_alike false true rs qs r q f g same here more = cc same

  entries_alike : (e : Entry) (rs qs : List TableRow) → RowsAlike rs qs → map (entry_data a e) (filter (is_entry a e) rs) ≡ map (entry_data b e) (filter (is_entry b e) qs)
  entries_alike e [] [] alike = refl
  entries_alike e [] (q ∷ qs) alike = absurd alike
  entries_alike e (r ∷ rs) [] alike = absurd alike
  entries_alike e (r ∷ rs) (q ∷ qs) alike =
      kept_alike (is_entry a e r) (is_entry b e q) _ _ r q (entry_data a e) (entry_data b e) (is_entry_alike e r q alike.0) (entry_alike e r q alike.0) (entries_alike e rs qs alike.1)

  value_step : (s t : Bool) (r q : TableRow) (o p : Option TableRow) → s ≡ t → row_fields r ≡ row_fields q → value_in a o ≡ value_in b p → value_in a (cond s (Some r) o) ≡ value_in b (cond t (Some q) p)
  value_step true true r q o p same here more = cell_alike r q here column.Value
  value_step false false r q o p same here more = more
  value_step true false r q o p same here more = cc same
  value_step false true r q o p same here more = cc same

  value_alike : (k : RowKind) (rs qs : List TableRow) → RowsAlike rs qs → value_in a (find (is_kind a k) rs) ≡ value_in b (find (is_kind b k) qs)
  value_alike k [] [] alike = refl
  value_alike k [] (q ∷ qs) alike = absurd alike
  value_alike k (r ∷ rs) [] alike = absurd alike
  value_alike k (r ∷ rs) (q ∷ qs) alike =
      value_step (is_kind a k r) (is_kind b k q) r q _ _ (kind_alike k r q alike.0) alike.0 (value_alike k rs qs alike.1)

  tree_alike : RowsAlike a.rows.items b.rows.items → table_tree a ≡ table_tree b
  unfolding table_tree
  tree_alike alike =
      let put : (k : RowKind) → setting_text a k ≡ setting_text b k = λ k. value_alike k a.rows.items b.rows.items alike in
      let all : (e : Entry) → entries_of a e ≡ entries_of b e = λ e. entries_alike e a.rows.items b.rows.items alike in
      λ j. with_entries (codes "initial") (all entry.Initial j) (with_entries (codes "mode") (all entry.Mode j) (with_entries (codes "rule") (all entry.Rule j)
      (with_text (kind_name kind.Bit) (put kind.Bit j) (with_text (kind_name kind.Vector) (put kind.Vector j) (with_text (kind_name kind.AcceptBusControl) (put kind.AcceptBusControl j)
      (with_text (kind_name kind.Wraparound) (put kind.Wraparound j) (with_text (kind_name kind.Broadcast) (put kind.Broadcast j) (with_text (kind_name kind.Address) (put kind.Address j) no_members))))))))

-- ---- a text is one table

parts_alike : (a b : Sheet) (ps qs : List (List (List ℕ))) → ps ≡ qs → HasRecords ps a → HasRecords qs b → (row_fields a.header ≡ row_fields b.header) × (map row_fields a.rows.items ≡ map row_fields b.rows.items)
parts_alike a b [] [] e x y = (x.0 ∙ sym y.0, ap (map row_fields) (x.1 ∙ sym y.1))
parts_alike a b [] (q ∷ qs) e x y = cc e
parts_alike a b (p ∷ ps) [] e x y = cc e
parts_alike a b (p ∷ ps) (q ∷ qs) e x y =
    let here : p ≡ q = cc e in
    let more : ps ≡ qs = cc e in
    (x.0 ∙ here ∙ sym y.0, x.1 ∙ more ∙ sym y.1)

pub one_table : (text : List ℕ) (a b : Sheet) → IsSheetOf text a → IsSheetOf text b → table_tree a ≡ table_tree b
one_table text a b x y =
    let same = records_one (csv_config (delimiter_of text)) StartRecord (strip_bom text) x.read.are.records y.read.are.records x.read.are.read y.read.are.read in
    let parts = parts_alike a b x.records y.records (x.read.are.kept ∙ (ap kept_rows same ∙ sym y.read.are.kept)) x.has y.has in
    tree_alike a b parts.0 (alike_from a.rows.items b.rows.items parts.1)
