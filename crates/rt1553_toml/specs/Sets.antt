-- Sets as texts: the numbers of the bits that are set, the highest first, in two digits each, with commas between them. The first is a
-- range of this number alone, so that no text of a set is a numeral.
use Rattle.std.specs.Prelude.{ℕ, zero, suc, ◌+◌, ◌/◌, ◌%◌, ◌==◌, if◌then◌else◌, List, [], ◌∷◌, ◌++◌}
use Rattle.bus_word.specs.Mask.{has_bit}

-- the two decimal digits of a number below 100
abbrev pub two_digits : ℕ → List ℕ
two_digits n = (48 + n / 10) ∷ (48 + n % 10) ∷ []

-- a range of one number
abbrev pub lone_range : ℕ → List ℕ
lone_range n = two_digits n ++ (45 ∷ two_digits n)

-- a comma and a number for each bit below k, the highest first; bit 0 stands for the number `first`
abbrev pub more_numbers : ℕ → ℕ → ℕ → List ℕ
more_numbers first mask zero = []
more_numbers first mask (suc k) = if has_bit mask k then 44 ∷ (two_digits (first + k) ++ more_numbers first mask k) else more_numbers first mask k

-- the numbers of the bits below k
abbrev pub numbers_below : ℕ → ℕ → ℕ → List ℕ
numbers_below first mask zero = []
numbers_below first mask (suc k) = if has_bit mask k then lone_range (first + k) ++ more_numbers first mask k else numbers_below first mask k

-- the text of a set that is not empty
unfoldable pub numbers_text : ℕ → ℕ → List ℕ
numbers_text first mask = numbers_below first mask 32

-- No text is that of the empty set: its text is that of the first number alone, which its entry then says isn't legal.
abbrev pub said_set : ℕ → ℕ
said_set mask = if mask == 0 then 1 else mask

-- the text that an entry has for this set, empty or not
abbrev pub set_text : ℕ → ℕ → List ℕ
set_text first mask = numbers_text first (said_set mask)
