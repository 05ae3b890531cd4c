-- Text as it stands in a page.
use Rattle.std.specs.Prelude.{ℕ, ◌≡◌, ◌==◌, ◌||◌, if◌then◌else◌, List, [], ◌∷◌, ◌++◌, codes, encode_utf8_all}
use Rattle.std.specs.List.{flat_map}
use Rattle.std.specs.Char.{is_control, encode_utf8}

-- A character as it is written: `<`, `>`, `&` and `"` by their names; a control character but the line feed, and U+FFFE and U+FFFF,
-- which no text of XML has, by the replacement character; any other by itself.
abbrev pub escaped_char : ℕ → List ℕ
escaped_char c =
    if c == 60 then codes "&lt;"
    else if c == 62 then codes "&gt;"
    else if c == 38 then codes "&amp;"
    else if c == 34 then codes "&quot;"
    else if c == 10 then 10 ∷ []
    else if is_control c || (c == 65534) || (c == 65535) then encode_utf8 65533
    else encode_utf8 c

-- behind some bytes just the characters of a text were written, each so
abbrev pub Escapes : List ℕ → List ℕ → List ℕ → Type 0
Escapes text old new = (cs : List ℕ) × (encode_utf8_all cs ≡ text) × (new ≡ old ++ flat_map escaped_char cs)

-- A character as it is written in a string of CSS on a page: `"` and `\` behind a `\`, `<` and `&` by their numbers, a control character by
-- the replacement character; any other by itself.
abbrev pub css_char : ℕ → List ℕ
css_char c =
    if c == 34 then codes "\\\""
    else if c == 92 then codes "\\\\"
    else if c == 60 then codes "\\3c "
    else if c == 38 then codes "\\26 "
    else if is_control c then encode_utf8 65533
    else encode_utf8 c

-- behind some bytes just the characters of a text were written, each so
abbrev pub IsCssOf : List ℕ → List ℕ → List ℕ → Type 0
IsCssOf text old new = (cs : List ℕ) × (encode_utf8_all cs ≡ text) × (new ≡ old ++ flat_map css_char cs)
