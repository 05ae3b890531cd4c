-- Texts that can be printed on one line of a terminal, and texts that show bytes.
use Rattle.std.specs.Prelude.{ℕ, ◌≡◌, ◌≤◌, ◌<◌, ◌≢◌, List, [], ◌∷◌, ◌++◌, length, take, drop, if◌then◌else◌, encode_utf8_all}
use Rattle.std.specs.List.{All, flat_map}
use Rattle.std.specs.Char.{is_ascii_control}
use Rattle.std.specs.Char.Escape.{IsEscapeDebug, escape_ascii}
use Rattle.std.specs.Str.{chars}
use Rattle.std.specs.Str.Lossy.{utf8_valid_len, utf8_invalid_len, after_first_chunk}

-- A byte that is no control character of ASCII: no line feed, no escape, no delete.
abbrev pub IsPrintable : ℕ → Type 0
IsPrintable b = (32 ≤ b) × (b ≢ 127)

-- Nothing in the text ends a line or commands a terminal.
abbrev pub PrintsOnOneLine : List ℕ → Type 0
PrintsOnOneLine bytes = All IsPrintable bytes

-- A character as it is printed: a control character of ASCII as a question mark, any other as itself.
abbrev pub printed : ℕ → ℕ
printed c = if is_ascii_control c then 63 else c

-- The longest text at the front of bytes.
abbrev pub front_text : List ℕ → List ℕ
front_text bytes = take (utf8_valid_len bytes) bytes

-- The invalid sequence after that text. It is empty only where the text is all there is.
abbrev pub front_fault : List ℕ → List ℕ
front_fault bytes = let rest = drop (utf8_valid_len bytes) bytes in take (utf8_invalid_len rest) rest

-- Characters, and the characters that show them: each is shown as `escape_debug` writes it.
pub data ShowsChars : List ℕ → List ℕ → Type 0 where
  no_chars : ShowsChars [] []
  one_char : (c : ℕ) (escape cs shown : List ℕ) → IsEscapeDebug c escape → ShowsChars cs shown → ShowsChars (c ∷ cs) (escape ++ shown)

-- Bytes, and the characters that show them: first the longest text at their front, character by character; then each byte of the
-- invalid sequence after it, as `escape_ascii` writes it; then the rest alike. Of no bytes there are no characters.
pub data ShowsBytes : List ℕ → List ℕ → Type 0 where
  no_bytes : ShowsBytes [] []
  one_chunk : (bytes shown rest : List ℕ) → 0 < length bytes → ShowsChars (chars (front_text bytes)) shown
      → ShowsBytes (after_first_chunk bytes) rest → ShowsBytes bytes (shown ++ flat_map escape_ascii (front_fault bytes) ++ rest)

-- The text is the UTF-8 of characters that show the bytes.
abbrev pub Shows : List ℕ → List ℕ → Type 0
Shows bytes text = (shown : List ℕ) × (text ≡ encode_utf8_all shown) × ShowsBytes bytes shown

-- Behind the old text stands the UTF-8 of characters that show a part, and no more.
abbrev pub AddsShown : List ℕ → List ℕ → List ℕ → Type 0
AddsShown part old new = (shown : List ℕ) × (new ≡ old ++ encode_utf8_all shown) × ShowsChars (chars part) shown
