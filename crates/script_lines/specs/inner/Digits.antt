-- Hexadecimal digits of which the values are kept.
use Rattle.std.specs.Prelude.{ℕ, ◌≡◌, ◌<◌, List, [], ◌∷◌, Option, Some, None, Result, Ok, slice_index}
use Rattle.hex.specs.Hex.{decode_of, hex_digit_value}
use Rattle.hex.specs.declared.error.FromHexError.{FromHexError}

-- the number of one byte
abbrev pub byte_of_bytes : Result (List ℕ) FromHexError → Option ℕ
byte_of_bytes (Ok (byte ∷ [])) = Some byte
byte_of_bytes _ = None

-- the byte of two hexadecimal digits, small or capital
abbrev pub byte_of : List ℕ → Option ℕ
byte_of digits = byte_of_bytes (decode_of digits)

-- each entry below 16 is what `hex` reads in its byte
abbrev pub AreKnown : List ℕ → Type 0
AreKnown entries = (b : ℕ) → b < 256 → slice_index entries b < 16 → hex_digit_value b ≡ Some (slice_index entries b)
