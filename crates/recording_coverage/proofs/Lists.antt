-- Lists of legal cells, some more at a time.
use Rattle.std.proofs.Common.{◌≡◌, ◌<◌, ◌+◌, ◌-◌, ℕ, suc, Bool, List, [], ◌∷◌, ◌++◌, map, filter, flat_map, ap, sym, ◌∙◌, append_assoc, append-nil, arith}
use Rattle.std.specs.List.{range_with_len}
use Rattle.std.proofs.lemmas.List.Elements.{filter-append}
use Rattle.bus_word.specs.declared.cell.Cell.{Cell}

-- what was added, and what is left
step : (legal : Cell → Bool) (new old all here left whole : List Cell) → whole ≡ here ++ left → new ≡ old ++ filter legal here → old ++ filter legal whole ≡ all → new ++ filter legal left ≡ all
step legal new old all here left whole parts added kept =
    ap (λ xs. xs ++ filter legal left) added
    ∙ (append_assoc old (filter legal here) (filter legal left) ∙ (ap (λ xs. old ++ xs) (sym (filter-append legal here left) ∙ ap (filter legal) (sym parts)) ∙ kept))

-- the first of what is left before an end
range_next : (stop n : ℕ) → n < stop → range_with_len n (stop - n) ≡ n ∷ range_with_len (n + 1) (stop - (n + 1))
range_next stop n l = let e : stop - n ≡ suc (stop - (n + 1)) = omega arith in ap (range_with_len n) e

-- one more of a row, up to an end
pub row_step : (legal : Cell → Bool) (f : ℕ → Cell) (stop n : ℕ) (new old all : List Cell) → n < stop → new ≡ old ++ filter legal (f n ∷ [])
    → old ++ filter legal (map f (range_with_len n (stop - n))) ≡ all → new ++ filter legal (map f (range_with_len (n + 1) (stop - (n + 1)))) ≡ all
row_step legal f stop n new old all l added kept =
    step legal new old all (f n ∷ []) (map f (range_with_len (n + 1) (stop - (n + 1)))) (map f (range_with_len n (stop - n))) (ap (map f) (range_next stop n l)) added kept

pub row_end : (legal : Cell → Bool) (f : ℕ → Cell) (stop n : ℕ) (xs : List Cell) → stop - n ≡ 0 → xs ++ filter legal (map f (range_with_len n (stop - n))) ≡ xs
row_end legal f stop n xs e = ap (λ m. xs ++ filter legal (map f (range_with_len n m))) e ∙ append-nil xs

-- one row more
pub rows_step : (legal : Cell → Bool) (f : ℕ → List Cell) (stop s : ℕ) (new old all : List Cell) → s < stop → new ≡ old ++ filter legal (f s)
    → old ++ filter legal (flat_map f (range_with_len s (stop - s))) ≡ all → new ++ filter legal (flat_map f (range_with_len (s + 1) (stop - (s + 1)))) ≡ all
rows_step legal f stop s new old all l added kept =
    step legal new old all (f s) (flat_map f (range_with_len (s + 1) (stop - (s + 1)))) (flat_map f (range_with_len s (stop - s))) (ap (flat_map f) (range_next stop s l)) added kept

pub rows_end : (legal : Cell → Bool) (f : ℕ → List Cell) (stop s : ℕ) (xs : List Cell) → stop - s ≡ 0 → xs ++ filter legal (flat_map f (range_with_len s (stop - s))) ≡ xs
rows_end legal f stop s xs e = ap (λ m. xs ++ filter legal (flat_map f (range_with_len s m))) e ∙ append-nil xs

-- what was told of some, and then of some more
pub onto : (legal : Cell → Bool) (new old cells more : List Cell) → new ≡ old ++ filter legal more → old ≡ filter legal cells → new ≡ filter legal (cells ++ more)
onto legal new old cells more added before = added ∙ (ap (λ xs. xs ++ filter legal more) before ∙ sym (filter-append legal cells more))
