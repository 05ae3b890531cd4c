-- The lines of a text.
use Rattle.std.specs.Prelude.{ℕ, ◌==◌, ◌≢◌, ◌≡◌, if◌then◌else◌, List, [], ◌∷◌}

-- a byte before the first line
abbrev pub onto_first : ℕ → List (List ℕ) → List (List ℕ)
onto_first b [] = (b ∷ []) ∷ []
onto_first b (line ∷ lines) = (b ∷ line) ∷ lines

-- the lines of a text, without their line feeds; what follows the last line feed is a line if there is any
unfoldable pub lines_of : List ℕ → List (List ℕ)
lines_of [] = []
lines_of (b ∷ bytes) = if b == 10 then [] ∷ lines_of bytes else onto_first b (lines_of bytes)

-- no byte is a line feed, so the bytes are one line or a part of one
abbrev pub NoLineFeed : List ℕ → Type 0
NoLineFeed [] = Unit {0}
NoLineFeed (b ∷ bytes) = (b ≢ 10) × NoLineFeed bytes

-- nothing, or lines of which the last has its line feed too
abbrev pub EndsLine : List ℕ → Type 0
EndsLine [] = Unit {0}
EndsLine (b ∷ []) = b ≡ 10
EndsLine (b ∷ c ∷ bytes) = EndsLine (c ∷ bytes)
