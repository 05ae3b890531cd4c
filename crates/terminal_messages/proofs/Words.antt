-- Data words as far as there is room.
use Rattle.std.proofs.Common.{◌≡◌, ℕ, zero, suc, ◌≤◌, ◌<◌, List, [], ◌∷◌, ◌++◌, length, take, refl, ap, sym, arith, length-append}

all_taken : (n : ℕ) (xs : List ℕ) → length xs ≤ n → take n xs ≡ xs
all_taken zero [] h = refl
all_taken (suc n) [] h = refl
all_taken zero (x ∷ xs) h = absurd (omega arith)
all_taken (suc n) (x ∷ xs) h = ap (λ l. x ∷ l) (all_taken n xs (omega arith))

pub room : (n : ℕ) (xs : List ℕ) (d : ℕ) → length xs < n → xs ++ d ∷ [] ≡ take n (xs ++ d ∷ [])
room n xs d h = sym (all_taken n (xs ++ d ∷ []) (omega (arith, length-append xs (d ∷ []))))

pub full : (n : ℕ) (xs ys : List ℕ) → length xs ≡ n → xs ≡ take n (xs ++ ys)
full zero [] ys h = refl
full (suc n) [] ys h = absurd (omega arith)
full zero (x ∷ xs) ys h = absurd (omega arith)
full (suc n) (x ∷ xs) ys h = ap (λ l. x ∷ l) (full n xs ys (omega arith))
