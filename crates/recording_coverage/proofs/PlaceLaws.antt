-- Rows of legal messages, their sums, and their word counts.
use Rattle.std.proofs.Common.{◌≡◌, ◌≢◌, ℕ, suc, ◌+◌, ◌-◌, ◌*◌, ◌%◌, ◌^◌, ◌≤◌, ◌<◌, Bool, true, false, ◌||◌, ◌==◌, cond, bit_or, List, [], ◌∷◌, length, take, drop, get_or, refl, ap, sym, ◌∙◌, arith}
use Rattle.std.specs.Int.{w32}
use Rattle.std.proofs.lemmas.Bool.{eqb-true}
use Rattle.std.proofs.lemmas.Bool.Decides.{nat_tests}
use Rattle.std.proofs.lemmas.List.{drop_all}
use Rattle.std.proofs.lemmas.Nat.Bits.{bit_at_set_same, bit_at_set_other}
use Rattle.bus_word.specs.Mask.{has_bit}
use Rattle.recording_coverage.specs.declared.rows.CoveredMessage.{CoveredMessage}
use Rattle.recording_coverage.specs.Places.{is_same_place, before_rows, rows_in}

-- how many messages after the first stand in its row
abbrev pub more_of : CoveredMessage → List CoveredMessage → ℕ
more_of x [] = 0
more_of x (y ∷ ys) = cond (is_same_place x.cell y.cell) (suc (more_of y ys)) 0

abbrev pub row_of : ℕ → List CoveredMessage → List (List CoveredMessage)
row_of n ms = take n ms ∷ rows_in (drop n ms)

-- the first row, and the others
pub first_row : (x : CoveredMessage) (xs : List CoveredMessage) → rows_in (x ∷ xs) ≡ row_of (suc (more_of x xs)) (x ∷ xs)
first_row x [] = refl
first_row x (y ∷ ys) = ap (before_rows x) (first_row y ys) ∙ by_place (is_same_place x.cell y.cell) (first_row y ys)
  where
    by_place : (b : Bool) → rows_in (y ∷ ys) ≡ row_of (suc (more_of y ys)) (y ∷ ys)
        → cond b ((x ∷ y ∷ take (more_of y ys) ys) ∷ rows_in (drop (more_of y ys) ys)) ((x ∷ []) ∷ (y ∷ take (more_of y ys) ys) ∷ rows_in (drop (more_of y ys) ys)) ≡ row_of (suc (cond b (suc (more_of y ys)) 0)) (x ∷ y ∷ ys)
    by_place true first = refl
    by_place false first = ap (λ rows. (x ∷ []) ∷ rows) (sym first)

-- the messages so far are of the row
abbrev pub RowSoFar : List CoveredMessage → ℕ → CoveredMessage → Type 0
RowSoFar ms i d = rows_in ms ≡ row_of (i + more_of (get_or ms (i - 1) d) (drop i ms)) ms

pub row_begins : (ms : List CoveredMessage) (d : CoveredMessage) → 0 < length ms → RowSoFar ms 1 d
row_begins [] d l = absurd (omega arith)
row_begins (x ∷ xs) d l = let n : suc (more_of x xs) ≡ 1 + more_of x xs = omega arith in first_row x xs ∙ ap (λ k. row_of k (x ∷ xs)) n

-- no message is left behind the last
row_ends : (ms : List CoveredMessage) (i : ℕ) (d : CoveredMessage) → length ms ≤ i → i ≤ length ms → RowSoFar ms i d → rows_in ms ≡ row_of (length ms) ms
row_ends ms i d l m r =
    let n : i + 0 ≡ length ms = omega arith in
    r ∙ (ap (λ left. row_of (i + more_of (get_or ms (i - 1) d) left) ms) (drop_all i ms l) ∙ ap (λ k. row_of k ms) n)

pub row_all : (ms : List CoveredMessage) (i : ℕ) → 0 < length ms → length ms ≤ i → i ≤ length ms → ((d : CoveredMessage) → (1 ≤ i) × RowSoFar ms i d) → rows_in ms ≡ row_of (length ms) ms
row_all [] i some l m r = absurd (omega arith)
row_all (x ∷ xs) i some l m r = row_ends (x ∷ xs) i x l m (r x).1

-- a mask with one word count more
pub set_at : (bits n m k : ℕ) → k ≡ n - 1 → 1 ≤ n → n ≤ 32 → 1 ≤ m → has_bit (bit_or bits (1 * 2 ^ k % 2 ^ 32)) (m - 1) ≡ ((n == m) || has_bit bits (m - 1))
set_at bits n m k e ln hn lm = by_same (n == m) refl
  where
    by_same : (b : Bool) → (n == m) ≡ b → has_bit (bit_or bits (1 * 2 ^ k % 2 ^ 32)) (m - 1) ≡ (b || has_bit bits (m - 1))
    by_same true same =
        let is : n ≡ m = eqb-true n m same in
        let at : m - 1 ≡ k = omega arith in
        ap (has_bit (bit_or bits (1 * 2 ^ k % 2 ^ 32))) at ∙ ap (λ x. x == 1) (bit_at_set_same w32 bits k (omega arith))
    by_same false same =
        let other : m - 1 ≢ k = λ at. (let is : n ≡ m = omega arith in absurd (grind (arith, nat_tests))) in
        ap (λ x. x == 1) (bit_at_set_other w32 bits k (omega arith) (m - 1) other)
