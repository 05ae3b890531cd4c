-- How wide columns are.
use Rattle.std.specs.Prelude.{ℕ, ◌≡◌, ◌≤◌, ◌+◌, ◌*◌, ◌/◌, max, min, length}
use Rattle.std.specs.Fmt.{decimal}
use Rattle.rt1553_draw.specs.declared.column.Mark.{Mark}
use Rattle.rt1553_draw.specs.declared.column.Mark.TheVariants.{Box, Gap, Silence}

-- the number of a line, each digit of 7.3 units, rounded up, with 4 units on each side; it has at most 20 digits
abbrev pub number_width : ℕ → ℕ
number_width line = (73 * min (length (decimal line)) 20 + 9) / 10 + 8

-- The column of a mark is so wide: that of a gap and that of an empty slot by the number of its line alone, whatever is handed over.
abbrev pub IsWidthOf : ℕ → Mark → ℕ → Type 0
IsWidthOf number (Box lane caption) width = number ≤ width
IsWidthOf number (Gap lane) width = width ≡ max 24 number
IsWidthOf number Silence width = width ≡ max 24 number
