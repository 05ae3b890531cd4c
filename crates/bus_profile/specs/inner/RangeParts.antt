-- The parts of a text that its reader hasn't come to yet.
use Rattle.std.specs.Prelude.{ℕ, ◌==◌, List, [], Option, Some, None}
use Rattle.std.specs.List.{slice_split}

-- the parts of a text that follows such a byte, and none where there is no such text
abbrev pub parts_after : ℕ → Option (List ℕ) → List (List ℕ)
parts_after at None = []
parts_after at (Some text) = slice_split (λ b. b == at) text
