-- The numbers that the texts of cells name.
use Rattle.std.specs.Prelude.{ℕ, ◌-◌, ◌^◌, nat_le, ◌&&◌, if◌then◌else◌, List, [], ◌∷◌, Option, Some, None}
use Rattle.std.specs.Result.{result_unwrap_or}
use Rattle.bus_profile.specs.RangesOf.{ranges_of}
use Rattle.rt1553_import.specs.Cells.{cell_number}

-- the set of a number, bit n - low for n: empty where it is out of the range
abbrev pub set_of_number : ℕ → ℕ → ℕ → ℕ
set_of_number low high n = if nat_le low n && nat_le n high then 2 ^ (n - low) else 0

-- the set of a text of ranges: empty where it is none
abbrev pub set_of_ranges : ℕ → ℕ → List ℕ → ℕ
set_of_ranges low high text = result_unwrap_or (ranges_of low high text) 0

-- the set of a cell: of the number that it is, or else of the ranges that it names
abbrev pub set_named : ℕ → ℕ → List ℕ → Option ℕ → ℕ
set_named low high text (Some n) = set_of_number low high n
set_named low high text None = set_of_ranges low high text

-- the numbers of a range that a text names
abbrev pub numbers_named : ℕ → ℕ → List ℕ → ℕ
numbers_named low high text = set_named low high text (cell_number text)

-- the word counts that a text names: all where there is no text
abbrev pub counts_in : List ℕ → ℕ
counts_in [] = 4294967295
counts_in (b ∷ bs) = numbers_named 1 32 (b ∷ bs)
