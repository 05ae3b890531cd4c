-- In which word two replies differ first.
use Rattle.std.specs.Prelude.{◌≡◌, ℕ, zero, suc, ◌<◌, ◌≤◌, Option, None, List, length, slice_get}

-- All words before this index are the same. At it they differ, or one reply has a word and the other none; or both are over, and so they
-- are the same.
pub record DiffersFirstAt (a b : List ℕ) (n : ℕ) : Type 0 where
  pub within : n ≤ length a
  pub before : (k : ℕ) → k < n → slice_get a k ≡ slice_get b k
  pub differs : slice_get a n ≡ slice_get b n → (let none : Option ℕ = None in slice_get a n ≡ none)

-- the number of that word, from 1
abbrev pub IsDifferingWord : List ℕ → List ℕ → ℕ → Type 0
IsDifferingWord a b zero = ⊥
IsDifferingWord a b (suc n) = DiffersFirstAt a b n
