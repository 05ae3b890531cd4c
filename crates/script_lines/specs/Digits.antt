-- Numbers as they are written in scripts and transcripts.
use Rattle.std.specs.Prelude.{ℕ, ◌+◌, ◌-◌, ◌*◌, ◌/◌, ◌%◌, Bool, ◌&&◌, nat_le, nat_lt, if◌then◌else◌, List, [], ◌∷◌, Option, Some, None, Result, Ok}
use Rattle.hex.specs.Hex.{decode_of, encode_lower}
use Rattle.hex.specs.declared.error.FromHexError.{FromHexError}

-- the number of two bytes, the high one first
abbrev pub word_of_bytes : Result (List ℕ) FromHexError → Option ℕ
word_of_bytes (Ok (high ∷ low ∷ [])) = Some (high * 256 + low)
word_of_bytes _ = None

-- the word of four hexadecimal digits, small or capital
abbrev pub word_of : List ℕ → Option ℕ
word_of digits = word_of_bytes (decode_of digits)

-- the four hexadecimal digits of a word, small, the highest first
abbrev pub digits_of : ℕ → List ℕ
digits_of word = encode_lower (word / 256 ∷ word % 256 ∷ [])

-- the byte is a decimal digit, 0 to 9
abbrev pub is_decimal_digit : ℕ → Bool
is_decimal_digit b = nat_le 48 b && nat_lt b 58

-- the number of two decimal digits
abbrev pub number_of : ℕ → ℕ → Option ℕ
number_of tens ones = if is_decimal_digit tens && is_decimal_digit ones then Some ((tens - 48) * 10 + (ones - 48)) else None

-- the two decimal digits of a number below 100
abbrev pub decimal_digits : ℕ → List ℕ
decimal_digits n = (48 + n / 10) ∷ (48 + n % 10) ∷ []
