-- Rows of a page that are written one after the other.
use Rattle.std.proofs.Common.{◌≡◌, ◌<◌, ◌+◌, ℕ, List, [], ◌∷◌, ◌++◌, ◌∙◌, ap, sym, subst, refl, false, ◌==◌, Option, length, map, take, get_or, append_assoc, append-nil, codes}
use Rattle.std.proofs.lemmas.List.{take_more}
use Rattle.message_names.specs.NameRow.{NameRow}
use Rattle.recording_coverage.specs.declared.rows.IllegalMessage.{IllegalMessage}
use Rattle.rt1553_report.specs.Pieces.{AddsPiece}
use Rattle.rt1553_report.proofs.TextLaws.{adds}
use Rattle.report_pages.specs.Fields.{count_row}
use Rattle.report_pages.specs.CoveragePage.{AreRowsOf, IsIllegalRow, IsIllegalTable, table_head}

-- a row of a number, which is another one
pub counts_as : {old new : List ℕ} (what : List ℕ) {n : ℕ} (m : ℕ) → n ≡ m → AddsPiece old new (count_row what n) → AddsPiece old new (count_row what m)
counts_as {old} {new} what {n} m same written = subst (λ k. AddsPiece old new (count_row what k)) same written

-- one row more
pub rows_and_one : {A : Type 0} (IsRow : A → List ℕ → Type 0) (xs : List A) (x : A) (rows row : List ℕ) → AreRowsOf IsRow xs rows → IsRow x row → AreRowsOf IsRow (xs ++ x ∷ []) (rows ++ row)
rows_and_one IsRow [] x rows row none is = (row, [], is, refl, ap (λ t. t ++ row) none ∙ sym (append-nil row))
rows_and_one IsRow (y ∷ ys) x rows row (first, others, is_first, are_others, e) is =
    (first, others ++ row, is_first, rows_and_one IsRow ys x others row are_others is, ap (λ t. t ++ row) e ∙ append_assoc first others row)

-- behind the rows of the first things of a list stands that of the next
pub next_row : {A : Type 0} (IsRow : A → List ℕ → Type 0) (xs : List A) (i : ℕ) (d : A) (old next new : List ℕ) → i < length xs
    → ((rows : List ℕ) × AreRowsOf IsRow (take i xs) rows × AddsPiece old next rows) → ((row : List ℕ) × IsRow (get_or xs i d) row × AddsPiece next new row)
    → (rows : List ℕ) × AreRowsOf IsRow (take (i + 1) xs) rows × AddsPiece old new rows
next_row IsRow xs i d old next new l (rows, are, e) (row, is, e') =
    (rows ++ row, subst (λ ys. AreRowsOf IsRow ys (rows ++ row)) (sym (take_more xs i d l)) (rows_and_one IsRow (take i xs) (get_or xs i d) rows row are is), adds e e')

-- the rows of things, by what they are read as
pub rows_of_map : {A B : Type 0} (IsRow : B → List ℕ → Type 0) (f : A → B) (xs : List A) (rows : List ℕ) → AreRowsOf (λ x. IsRow (f x)) xs rows → AreRowsOf IsRow (map f xs) rows
rows_of_map IsRow f [] rows none = none
rows_of_map IsRow f (x ∷ xs) rows (row, others, is, are, e) = (row, others, is, rows_of_map IsRow f xs others are, e)

-- the table of illegal messages, of which some came
pub listed_table : (names : Option (List NameRow)) (illegal : List IllegalMessage) (rows : List ℕ) → false ≡ (length illegal == 0) → AreRowsOf (IsIllegalRow names) illegal rows
    → IsIllegalTable names illegal (table_head names [] ++ rows ++ codes "</tbody>\n</table>\n")
listed_table names [] rows some are = absurd (cc)
listed_table names (m ∷ ms) rows some are = (rows, are, refl)
