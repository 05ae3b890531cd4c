-- The lines of the file that a script was made from.
use Rattle.std.specs.Prelude.{ℕ, ◌-◌, List, Option, Some, None, get_or}

-- the line of the file that a line of its script stands for
abbrev pub line_in_file : Option (List ℕ) → ℕ → ℕ
line_in_file None line = line
line_in_file (Some sources) line = get_or sources (line - 1) line
