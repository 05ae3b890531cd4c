-- What was written for lines of words.
use Rattle.std.specs.Prelude.{ℕ, ◌≡◌, ◌<◌, Bool, List, [], ◌∷◌, Option, Some, None, length}
use Rattle.std.specs.Io.KnownBytes.{Appends}
use Rattle.script_lines.specs.Text.{lines_of}
use Rattle.rt1553_tool.specs.WordTexts.{word_answer, is_refused_line}

-- where there is a line, it is the first of these bytes, what answers it was written, and what is left follows it
abbrev pub TellsLine : Option (List ℕ) → Option (List ℕ) → Option Bool → List ℕ → Option (List ℕ) → Type 0
TellsLine old new (Some refused) xs left = (line : List ℕ) × (rest : List ℕ) × (lines_of xs ≡ line ∷ lines_of rest) × (left ≡ Some rest) × (length rest < length xs)
    × (refused ≡ is_refused_line line) × Appends old new (word_answer line)
TellsLine old new None xs left = (xs ≡ []) × (new ≡ old)
