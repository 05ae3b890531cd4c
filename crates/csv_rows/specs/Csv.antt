-- CSV as RFC 4180 has it, section 2: fields with separators between them, each in quotes or without any; and where a text breaks this.
use Rattle.std.specs.Prelude.{◌≡◌, ◌≢◌, ◌⊎◌, ⊤, ℕ, suc, ◌==◌, ◌&&◌, ◌||◌, not, Bool, true, if◌then◌else◌, List, [], ◌∷◌, ◌++◌}
use Rattle.std.specs.List.{list_any}
use Rattle.csv_rows.specs.declared.place.CellPlace.{CellPlace}

-- a byte that ends a field: the delimiter, or one of a line end
abbrev pub is_separator : ℕ → ℕ → Bool
is_separator d b = (b == d) || ((b == 10) || (b == 13))

-- a byte that a field without quotes may have
abbrev pub is_unquoted : ℕ → ℕ → Bool
is_unquoted d b = not (is_separator d b) && not (b == 34)

-- a text that a field without quotes may have
unfoldable pub all_unquoted : ℕ → List ℕ → Bool
all_unquoted d [] = true
all_unquoted d (b ∷ bs) = is_unquoted d b && all_unquoted d bs

-- a text with each quote doubled
unfoldable pub doubled : List ℕ → List ℕ
doubled [] = []
doubled (b ∷ bs) = if b == 34 then 34 ∷ 34 ∷ doubled bs else b ∷ doubled bs

-- a text as a field in quotes
abbrev pub quoted : List ℕ → List ℕ
quoted text = 34 ∷ doubled text ++ 34 ∷ []

-- a field as it is written
abbrev pub IsField : ℕ → List ℕ → Type 0
IsField d field = (all_unquoted d field ≡ true) ⊎ ((text : List ℕ) × (field ≡ quoted text))

-- a text that no field begins like: a quote in a field without quotes, a byte other than a separator after the closing quote, or no
-- closing quote
abbrev pub IsBroken : ℕ → List ℕ → Type 0
IsBroken d rest =
    ((b : ℕ) × (bs after : List ℕ) × (all_unquoted d (b ∷ bs) ≡ true) × (rest ≡ (b ∷ bs) ++ 34 ∷ after))
    ⊎ ((text : List ℕ) × (b : ℕ) × (after : List ℕ) × (is_unquoted d b ≡ true) × (rest ≡ quoted text ++ b ∷ after))
    ⊎ ((text : List ℕ) × (rest ≡ 34 ∷ doubled text))

-- these are fields, each with a separator
unfoldable pub AreFields : ℕ → List (List ℕ × ℕ) → Type 0
AreFields d [] = ⊤
AreFields d (p ∷ more) = IsField d p.0 × (is_separator d p.1 ≡ true) × AreFields d more

-- fields, each with the separator after it, and what follows them
unfoldable pub joined : List (List ℕ × ℕ) → List ℕ → List ℕ
joined [] rest = rest
joined (p ∷ more) rest = p.0 ++ p.1 ∷ joined more rest

-- the text is CSV: fields with separators between them
pub record IsCsv (d : ℕ) (text : List ℕ) : Type 0 where
  pub fields : List (List ℕ × ℕ)
  pub last : List ℕ
  pub are : AreFields d fields
  pub is : IsField d last
  pub whole : text ≡ joined fields last

-- the byte that ends a line: a line feed, or in a text without one a carriage return
abbrev pub line_end_of : List ℕ → ℕ
line_end_of text = if list_any (λ b. b == 10) text then 10 else 13

-- how many times a text has this byte
unfoldable pub line_ends : ℕ → List ℕ → ℕ
line_ends feed [] = 0
line_ends feed (b ∷ bs) = if b == feed then suc (line_ends feed bs) else line_ends feed bs

-- the number in its row of the field after these, of which the first has this number
unfoldable pub column_after : ℕ → ℕ → List (List ℕ × ℕ) → ℕ
column_after d column [] = column
column_after d column (p ∷ more) = column_after d (if p.1 == d then suc column else 1) more

-- the text is no CSV: after whole fields comes one that is broken, at this place
pub record IsBrokenAt (d : ℕ) (text : List ℕ) (place : CellPlace) : Type 0 where
  pub fields : List (List ℕ × ℕ)
  pub rest : List ℕ
  pub are : AreFields d fields
  pub broken : IsBroken d rest
  pub whole : text ≡ joined fields rest
  pub row : place.row ≡ suc (line_ends (line_end_of text) (joined fields []))
  pub column : place.column ≡ column_after d 1 fields

-- no text is CSV and broken too
abbrev pub CsvOrBroken : Type 0
CsvOrBroken = (d : ℕ) (text : List ℕ) (place : CellPlace) → d ≢ 34 → IsCsv d text → IsBrokenAt d text place → ⊥
