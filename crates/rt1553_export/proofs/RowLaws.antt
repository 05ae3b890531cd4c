-- Rows that are written one after the other.
use Rattle.std.proofs.Common.{◌≡◌, ℕ, zero, suc, ◌+◌, ◌<◌, List, [], ◌∷◌, ◌++◌, length, get_or, take, refl, ap, sym, ◌∙◌, append_assoc, append-nil, length-take-le, arith}
use Rattle.std.proofs.lemmas.List.{take_more}
use Rattle.std.specs.List.{zip}
use Rattle.rt1553_toml.specs.inner.FullTree.{from_number}
use Rattle.rt1553_toml.proofs.TableLaws.{from_number-last}
use Rattle.rt1553_export.specs.inner.Rows.{row_bytes, rows_text}

-- a text with one more piece, and what follows it
pub piece : (before text here rest : List ℕ) → text ≡ before ++ here → text ++ rest ≡ before ++ (here ++ rest)
piece before text here rest e = ap (λ t. t ++ rest) e ∙ append_assoc before here rest

pub rows_text-append : (xs ys : List (List (List ℕ))) → rows_text (xs ++ ys) ≡ rows_text xs ++ rows_text ys
rows_text-append [] ys = refl
rows_text-append (x ∷ xs) ys = ap (λ t. row_bytes x ++ t) (rows_text-append xs ys) ∙ sym (append_assoc (row_bytes x) (rows_text xs) (rows_text ys))

rows_text-last : (xs : List (List (List ℕ))) (x : List (List ℕ)) → rows_text (xs ++ x ∷ []) ≡ rows_text xs ++ row_bytes x
rows_text-last xs x = rows_text-append xs (x ∷ []) ∙ ap (λ t. rows_text xs ++ t) (append-nil (row_bytes x))

-- one more row
pub one_more : {A : Type 0} (f : ℕ → A → List (List ℕ)) (xs : List A) (at : ℕ) (d : A) (before old new : List ℕ) → at < length xs
    → old ≡ before ++ rows_text (from_number f 1 (take at xs)) → new ≡ old ++ row_bytes (f (at + 1) (get_or xs at d)) → new ≡ before ++ rows_text (from_number f 1 (take (at + 1) xs))
one_more f xs at d before old new within so_far written =
    let long : 1 + length (take at xs) ≡ at + 1 = omega (arith, length-take-le at xs (omega arith)) in
    let row = f (at + 1) (get_or xs at d) in
    written ∙ piece before old (rows_text (from_number f 1 (take at xs))) (row_bytes row) so_far
    ∙ ap (λ t. before ++ t) (sym (rows_text-last (from_number f 1 (take at xs)) row)
    ∙ ap rows_text ((λ j. from_number f 1 (take at xs) ++ f (sym long j) (get_or xs at d) ∷ []) ∙ sym (from_number-last f 1 (take at xs) (get_or xs at d)) ∙ ap (from_number f 1) (sym (take_more xs at d within))))

-- ---- pairs

pub zip_at : {A B : Type 0} (xs : List A) (ys : List B) (i : ℕ) (d : A) (e : B) → i < length xs → i < length ys → get_or (zip xs ys) i (d, e) ≡ (get_or xs i d, get_or ys i e)
zip_at [] ys i d e l m = absurd (omega arith)
zip_at (x ∷ xs) [] i d e l m = absurd (omega arith)
zip_at (x ∷ xs) (y ∷ ys) zero d e l m = refl
zip_at (x ∷ xs) (y ∷ ys) (suc i) d e l m = zip_at xs ys i d e (omega arith) (omega arith)

pub length-zip : {A B : Type 0} (xs : List A) (ys : List B) → length xs ≡ length ys → length (zip xs ys) ≡ length xs
length-zip [] ys e = refl
length-zip (x ∷ xs) [] e = absurd (omega (arith, e))
length-zip (x ∷ xs) (y ∷ ys) e = ap suc (length-zip xs ys (omega (arith, e)))
