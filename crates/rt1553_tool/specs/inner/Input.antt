-- Lines that are taken from the front of what is known of an input.
use Rattle.std.specs.Prelude.{ℕ, ◌≡◌, ◌<◌, Bool, true, false, List, [], ◌∷◌, Option, Some, length, take}
use Rattle.script_lines.specs.Text.{lines_of}

-- where a line was found, it is the first of these bytes, its first N bytes were kept, and what is left follows it
abbrev pub TakesLine : ℕ → Bool → List ℕ → List ℕ → Option (List ℕ) → Type 0
TakesLine N true xs kept left = (line : List ℕ) × (rest : List ℕ) × (lines_of xs ≡ line ∷ lines_of rest) × (kept ≡ take N line) × (left ≡ Some rest) × (length rest < length xs)
TakesLine N false xs kept left = (xs ≡ []) × (left ≡ Some [])
