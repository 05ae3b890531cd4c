-- JSON of nothing but printable characters of ASCII.
use Rattle.std.specs.Prelude.{ℕ, ◌≡◌, ◌+◌, ◌/◌, ◌%◌, nat_le, nat_lt, Bool, true, ◌&&◌, if◌then◌else◌, List, [], ◌∷◌, encode_utf8_all}
use Rattle.std.specs.List.{flat_map, list_all}
use Rattle.std.specs.Char.Escape.{encode_utf16}

-- a printable character of ASCII
abbrev pub is_printable : ℕ → Bool
is_printable c = nat_le 32 c && nat_lt c 127

-- all bytes are printable characters of ASCII
abbrev pub IsPlainText : List ℕ → Type 0
IsPlainText bytes = list_all is_printable bytes ≡ true

-- the hexadecimal digit of a number below 16
abbrev pub digit_char : ℕ → ℕ
digit_char n = if nat_lt n 10 then 48 + n else 87 + n

-- a unit of UTF-16 (RFC 8259, section 7): `\u` and four hexadecimal digits
abbrev pub escaped_unit : ℕ → List ℕ
escaped_unit u = 92 ∷ 117 ∷ digit_char (u / 4096 % 16) ∷ digit_char (u / 256 % 16) ∷ digit_char (u / 16 % 16) ∷ digit_char (u % 16) ∷ []

-- a character of JSON: a printable one of ASCII by itself, any other by its units of UTF-16
abbrev pub ascii_char : ℕ → List ℕ
ascii_char c = if is_printable c then c ∷ [] else flat_map escaped_unit (encode_utf16 c)

-- just the characters of a text were written, each so
abbrev pub IsInAscii : List ℕ → List ℕ → Type 0
IsInAscii json text = (cs : List ℕ) × (encode_utf8_all cs ≡ json) × (text ≡ flat_map ascii_char cs)
