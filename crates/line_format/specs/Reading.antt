-- What is found where a text of lines is read from its front.
use Rattle.std.specs.Prelude.{ℕ, zero, suc, ◌+◌, ◌-◌, ◌*◌, Bool, nat_lt, nat_le, ◌&&◌, if◌then◌else◌, List, [], ◌∷◌, Option, Some, None, Result, Ok, Err}
use Rattle.line_format.specs.Format.{Field, Shape, Format, done, line}
use Rattle.line_format.specs.Front.{◌>>=◌, after}
use Rattle.line_format.specs.Answers.{LineAnswer, Whole, More, Wrong}

-- a number, where it is a digit of this base
abbrev pub below : ℕ → ℕ → Option ℕ
below base d = if nat_lt d base then Some d else None

-- the digit that a byte stands for: 0 to 9, and above that a small letter from a on
abbrev pub digit_value : ℕ → ℕ → Option ℕ
digit_value base b = if nat_lt b 97 then (if nat_le 48 b && nat_lt b 58 then below base (b - 48) else None) else below base (b - 87)

-- a digit, and the bytes after it
abbrev pub digit_at : ℕ → List ℕ → Option (ℕ × List ℕ)
digit_at base [] = None
digit_at base (b ∷ bs) = digit_value base b >>= λ d. Some (d, bs)

-- a number of so many digits, the highest first, where `acc` stands for the digits before them; and the bytes after it
abbrev pub number_at : ℕ → ℕ → ℕ → List ℕ → Option (ℕ × List ℕ)
number_at base zero acc bytes = Some (acc, bytes)
number_at base (suc width) acc [] = None
number_at base (suc width) acc (b ∷ bs) = digit_value base b >>= λ d. number_at base width (acc * base + d) bs

-- a number behind a space, and the bytes after it
abbrev pub field_at : ℕ → ℕ → List ℕ → Option (ℕ × List ℕ)
field_at base width bytes = after (32 ∷ []) bytes >>= λ rest. number_at base width 0 rest

-- the numbers of these fields, and the bytes after them
abbrev pub fields_at : List Field → List ℕ → Option (List ℕ × List ℕ)
fields_at [] bytes = Some ([], bytes)
fields_at (f ∷ fs) bytes = do
  n ← field_at f.base f.width bytes
  ns ← fields_at fs n.1
  Some (n.0 ∷ ns.0, ns.1)

-- what a line of this name and these fields holds, and the bytes after it
unfoldable pub content_at : List ℕ → List Field → List ℕ → Option (List ℕ × List ℕ)
content_at name fields bytes = do
  rest ← after name bytes
  xs ← fields_at fields rest
  end ← after (10 ∷ []) xs.1
  Some (xs.0, end)

-- what was read, if the test passes its numbers
abbrev pub only : (List ℕ → Bool) → List ℕ × List ℕ → Option (List ℕ × List ℕ)
only allowed p = if allowed p.0 then Some p else None

-- the same of a line of this shape, which may not hold everything
unfoldable pub line_at : Shape → List ℕ → Option (List ℕ × List ℕ)
line_at s bytes = content_at s.name s.fields bytes >>= only s.allowed

-- where a reader stands: the number of the next line, and the bytes from there
pub record Spot : Type 0 where
  pub number : ℕ
  pub rest : List ℕ

-- the start of a text
abbrev pub start : List ℕ → Spot
start text = record { number = 1; rest = text }

-- The value of a text of this format and where it ends, or the number of the first line that is not of the shape that the
-- lines before it ask for.
abbrev pub read : {A : Type 0} → Format A → Spot → Result (A × Spot) ℕ
read (done a) p = Ok (a, p)
read (line s next) p = elim (line_at s p.rest) [ None ↦ Err p.number | Some found ↦ read (next found.0) (record { number = p.number + 1; rest = found.1 }) ]

-- A value that was read with nothing left is that of a whole text.
abbrev pub whole_or_more : {A : Type 0} → A → List ℕ → LineAnswer A
whole_or_more v [] = Whole v
whole_or_more v (b ∷ bs) = More

-- what reading from the start finds, as an answer
abbrev pub answer_found : {A : Type 0} → Result (A × Spot) ℕ → LineAnswer A
answer_found (Ok p) = whole_or_more p.0 p.1.rest
answer_found (Err n) = Wrong n
