-- What the search for the first difference finds: in two masks, in two tables, and of two terminals.
use Rattle.std.specs.Prelude.{◌≡◌, ℕ, ◌<◌, true, Option, Some, None}
use Rattle.bus_word.specs.Cell.{is_data_place}
use Rattle.bus_legal.specs.Description.{Description}
use Rattle.bus_canon.specs.declared.difference.Difference.{Difference}
use Rattle.bus_canon.specs.Difference.{rank, IsLower, AreAlike, IsFirstDifference, IsInRange}

-- the first number below this, from 0, at which two functions differ
pub record IsFirstNumber {X : Type 0} (below : ℕ) (f g : ℕ → X) (i : ℕ) : Type 0 where
  pub inside : i < below
  pub differ : f i ≡ g i → ⊥
  pub alike : (k : ℕ) → k < i → f k ≡ g k

-- the answer is the first such number; None means that the functions do not differ
abbrev pub FindsNumber : {X : Type 0} → ℕ → (ℕ → X) → (ℕ → X) → Option ℕ → Type 0
FindsNumber below f g None = (k : ℕ) → k < below → f k ≡ g k
FindsNumber below f g (Some i) = IsFirstNumber below f g i

-- the first place of data, by subaddress and then by count or number, at which two functions differ
pub record IsFirstPlace {X : Type 0} (f g : ℕ → ℕ → X) (s n : ℕ) : Type 0 where
  pub place : is_data_place s n ≡ true
  pub differ : f s n ≡ g s n → ⊥
  pub alike : (t m : ℕ) → is_data_place t m ≡ true → IsLower t m s n → f t m ≡ g t m

-- the answer is the first such place; None means that the functions do not differ
abbrev pub FindsPlace : {X : Type 0} → (ℕ → ℕ → X) → (ℕ → ℕ → X) → Option (ℕ × ℕ) → Type 0
FindsPlace f g None = (s n : ℕ) → is_data_place s n ≡ true → f s n ≡ g s n
FindsPlace f g (Some p) = IsFirstPlace f g p.0 p.1

-- the two are alike in all that is of a kind before this one
abbrev pub AlikeBefore : ℕ → Description → Description → Type 0
AlikeBefore kind P Q = (d : Difference) → rank d < kind → AreAlike P Q d

-- The first difference is found, or the two are alike in all that is of a kind before this one.
abbrev pub Found : ℕ → Description → Description → Option Difference → Type 0
Found kind P Q None = AlikeBefore kind P Q
Found kind P Q (Some d) = IsFirstDifference P Q d × IsInRange d
