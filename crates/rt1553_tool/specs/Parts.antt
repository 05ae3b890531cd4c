-- The parts of a line.
use Rattle.std.specs.Prelude.{ℕ, ◌==◌, ◌||◌, Bool, if◌then◌else◌, List, [], ◌∷◌}
use Rattle.script_lines.specs.Text.{onto_first}

-- what stands before the first `#`
unfoldable pub before_comment : List ℕ → List ℕ
before_comment [] = []
before_comment (b ∷ bytes) = if b == 35 then [] else b ∷ before_comment bytes

-- a byte that separates parts: a space, a tab or a form feed
abbrev pub is_blank : ℕ → Bool
is_blank b = (b == 32) || ((b == 9) || (b == 12))

-- what stands between blanks
unfoldable pub pieces_of : List ℕ → List (List ℕ)
pieces_of [] = []
pieces_of (b ∷ bytes) = if is_blank b then [] ∷ pieces_of bytes else onto_first b (pieces_of bytes)

-- without the pieces that have no byte
abbrev pub with_bytes : List (List ℕ) → List (List ℕ)
with_bytes [] = []
with_bytes ([] ∷ pieces) = with_bytes pieces
with_bytes ((b ∷ bytes) ∷ pieces) = (b ∷ bytes) ∷ with_bytes pieces

-- the parts of a line: the longest runs of bytes without blanks, up to the first `#`
abbrev pub line_parts : List ℕ → List (List ℕ)
line_parts line = with_bytes (pieces_of (before_comment line))
