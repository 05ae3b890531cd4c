-- Lists of differences, one more at a time.
use Rattle.std.proofs.Common.{◌≡◌, ◌<◌, ◌+◌, ◌-◌, ℕ, suc, List, [], ◌∷◌, ◌++◌, ap, sym, ◌∙◌, append_assoc, append-nil, arith}
use Rattle.std.proofs.lemmas.List.Elements.{filter-append}
use Rattle.bus_legal.specs.Parts.{Parts}
use Rattle.bus_canon.specs.declared.difference.Difference.{Difference}
use Rattle.rt1553_differ.specs.Told.{is_told, told_differences, in_row, in_rows}

pub told-append : (v w : Parts) (ds es : List Difference) → told_differences v w (ds ++ es) ≡ told_differences v w ds ++ told_differences v w es
unfolding told_differences
told-append v w ds es = filter-append (is_told v w) ds es

row-suc : (kind : ℕ → Difference) (n m k : ℕ) → m ≡ suc k → in_row kind n m ≡ (kind n ∷ []) ++ in_row kind (n + 1) k
unfolding in_row
row-suc kind n m k e = ap (in_row kind n) e ∙ (let next : suc n ≡ n + 1 = omega arith in ap (λ i. kind n ∷ in_row kind i k) next)

rows-suc : (kind : ℕ → ℕ → Difference) (s m k : ℕ) → m ≡ suc k → in_rows kind s m ≡ in_row (kind s) 1 32 ++ in_rows kind (s + 1) k
unfolding in_rows
rows-suc kind s m k e = ap (in_rows kind s) e ∙ (let next : suc s ≡ s + 1 = omega arith in ap (λ i. in_row (kind s) 1 32 ++ in_rows kind i k) next)

-- what was added, and what is left
step : (v w : Parts) (new old all : List Difference) (here left whole : List Difference) → whole ≡ here ++ left
    → new ≡ old ++ told_differences v w here → old ++ told_differences v w whole ≡ all → new ++ told_differences v w left ≡ all
step v w new old all here left whole parts added kept =
    ap (λ xs. xs ++ told_differences v w left) added ∙ (append_assoc old (told_differences v w here) (told_differences v w left)
    ∙ (ap (λ xs. old ++ xs) (sym (told-append v w here left) ∙ ap (told_differences v w) (sym parts)) ∙ kept))

-- one number more of a row that ends before this number
pub row_step : (v w : Parts) (kind : ℕ → Difference) (stop n : ℕ) (new old all : List Difference) → n < stop
    → new ≡ old ++ told_differences v w (kind n ∷ []) → old ++ told_differences v w (in_row kind n (stop - n)) ≡ all → new ++ told_differences v w (in_row kind (n + 1) (stop - (n + 1))) ≡ all
row_step v w kind stop n new old all l added kept =
    let e : stop - n ≡ suc (stop - (n + 1)) = omega arith in
    step v w new old all (kind n ∷ []) (in_row kind (n + 1) (stop - (n + 1))) (in_row kind n (stop - n)) (row-suc kind n (stop - n) (stop - (n + 1)) e) added kept

pub rows_step : (v w : Parts) (kind : ℕ → ℕ → Difference) (s : ℕ) (new old all : List Difference) → s < 31
    → new ≡ old ++ told_differences v w (in_row (kind s) 1 32) → old ++ told_differences v w (in_rows kind s (31 - s)) ≡ all → new ++ told_differences v w (in_rows kind (s + 1) (31 - (s + 1))) ≡ all
rows_step v w kind s new old all l added kept =
    let e : 31 - s ≡ suc (31 - (s + 1)) = omega arith in
    step v w new old all (in_row (kind s) 1 32) (in_rows kind (s + 1) (31 - (s + 1))) (in_rows kind s (31 - s)) (rows-suc kind s (31 - s) (31 - (s + 1)) e) added kept

pub row_end : (v w : Parts) (kind : ℕ → Difference) (stop n : ℕ) (xs : List Difference) → stop - n ≡ 0 → xs ++ told_differences v w (in_row kind n (stop - n)) ≡ xs
unfolding told_differences in_row
row_end v w kind stop n xs e = ap (λ m. xs ++ told_differences v w (in_row kind n m)) e ∙ append-nil xs

pub rows_end : (v w : Parts) (kind : ℕ → ℕ → Difference) (s : ℕ) (xs : List Difference) → 31 - s ≡ 0 → xs ++ told_differences v w (in_rows kind s (31 - s)) ≡ xs
unfolding told_differences in_rows
rows_end v w kind s xs e = ap (λ m. xs ++ told_differences v w (in_rows kind s m)) e ∙ append-nil xs

-- what was told of some, and then of some more
pub onto : (v w : Parts) (new old : List Difference) (ds es : List Difference) → new ≡ old ++ told_differences v w ds → old ≡ told_differences v w es → new ≡ told_differences v w (es ++ ds)
onto v w new old ds es added before = added ∙ ap (λ xs. xs ++ told_differences v w ds) before ∙ sym (told-append v w es ds)
