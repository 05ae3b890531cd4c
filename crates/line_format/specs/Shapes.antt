-- Common shapes of lines.
use Rattle.std.specs.Prelude.{ℕ, Bool, true, ◌==◌, List, [], ◌∷◌, replicate}
use Rattle.line_format.specs.Format.{Field, Format, done, line}

-- the field of this base, with this number of digits
abbrev pub number_field : ℕ → ℕ → Field
number_field base width = record { base = base; width = width }

-- two decimal digits
abbrev pub decimal : Field
decimal = number_field 10 2

-- four hexadecimal digits
abbrev pub word : Field
word = number_field 16 4

-- eight hexadecimal digits
abbrev pub mask : Field
mask = number_field 16 8

-- the first number of a line; 0 where there is none
abbrev pub first : List ℕ → ℕ
first [] = 0
first (x ∷ xs) = x

-- the numbers of a line after the first
abbrev pub others : List ℕ → List ℕ
others [] = []
others (x ∷ xs) = xs

-- a line with one number, which it means
unfoldable pub number_line : List ℕ → Field → (ℕ → Bool) → Format ℕ
number_line name f allowed = line (record { name = name; fields = f ∷ []; allowed = λ xs. allowed (first xs) }) (λ xs. done (first xs))

-- a line with a 0 or a 1, which means a truth value
unfoldable pub bit_line : List ℕ → Format Bool
bit_line name = line (record { name = name; fields = number_field 2 1 ∷ []; allowed = λ _. true }) (λ xs. done (first xs == 1))

-- a line with this number in two decimal digits and a mask, which it means
unfoldable pub numbered_line : List ℕ → ℕ → Format ℕ
numbered_line name number = line (record { name = name; fields = decimal ∷ mask ∷ []; allowed = λ xs. first xs == number }) (λ xs. done (first (others xs)))

-- a line with this number in two decimal digits and so many words, which it means
unfoldable pub words_line : List ℕ → ℕ → ℕ → Format (List ℕ)
words_line name number count = line (record { name = name; fields = decimal ∷ replicate count word; allowed = λ xs. first xs == number }) (λ xs. done (others xs))
