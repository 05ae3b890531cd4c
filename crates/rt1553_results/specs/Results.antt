-- The results of a unit: a table in CSV of numbers of exchanges and replies.
use Rattle.std.specs.Prelude.{ℕ, ◌≡◌, ◌^◌, ◌<◌, ◌≤◌, nat_eq, ◌==◌, nat_le, if◌then◌else◌, Option, Some, None, option_map, List, [], ◌∷◌, length, map, codes}
use Rattle.std.specs.Ordering.{nat_cmp}
use Rattle.std.specs.List.{IsDistinct}
use Rattle.std.specs.Map.{lookup}
use Rattle.std.specs.BTreeMap as tree
use Rattle.std.specs.Str.{bytes_eq}
use Rattle.std.specs.Str.Parse.{IsNumeral, digits_value}
use Rattle.csv.specs.Records.{field_at}
use Rattle.csv_rows.specs.Rows.{AreRows}
use Rattle.script_lines.specs.Digits.{word_of}
use Rattle.rt1553_results.specs.declared.results.Results.{Results}
use Rattle.rt1553_results.specs.declared.results.NumberedReply.{NumberedReply}
use Rattle.rt1553_results.specs.declared.results.Columns.{Columns}

-- a word before others, where all are there
abbrev pub word_then : Option ℕ → Option (List ℕ) → Option (List ℕ)
word_then (Some word) (Some words) = Some (word ∷ words)
word_then _ _ = None

-- words of four hexadecimal digits, small or capital, with a space between two
unfoldable pub words_said : List ℕ → Option (List ℕ)
words_said (a ∷ b ∷ c ∷ d ∷ []) = word_then (word_of (a ∷ b ∷ c ∷ d ∷ [])) (Some [])
words_said (a ∷ b ∷ c ∷ d ∷ e ∷ rest) = if e == 32 then word_then (word_of (a ∷ b ∷ c ∷ d ∷ [])) (words_said rest) else None
words_said _ = None

-- words that are few enough for a reply
abbrev pub at_most_33 : Option (List ℕ) → Option (List ℕ)
at_most_33 None = None
at_most_33 (Some words) = if nat_le (length words) 33 then Some words else None

-- a reply: none, or 1 to 33 words
abbrev pub reply_said : List ℕ → Option (List ℕ)
reply_said field = if bytes_eq field (codes "none") then Some [] else at_most_33 (words_said field)

-- a number: decimal digits, from 1 on, below 2 ^ 32
abbrev pub IsExchangeNumber : List ℕ → Type 0
IsExchangeNumber field = IsNumeral 10 field × (1 ≤ digits_value 10 field) × (digits_value 10 field < 2 ^ 32)

-- the column of this name: there is one, and no other of the name
pub record IsColumn (name : List ℕ) (header : List (List ℕ)) (place : ℕ) : Type 0 where
  pub there : field_at header place ≡ Some name
  pub alone : (k : ℕ) → field_at header k ≡ Some name → k ≡ place

-- the columns of a header that are looked for
pub record AreColumns (header : List (List ℕ)) (columns : Columns) : Type 0 where
  pub width : columns.width ≡ length header
  pub number : IsColumn (codes "number") header columns.number
  pub reply : IsColumn (codes "reply") header columns.reply

-- what a row says: a number, and the reply to the exchange of this number
abbrev pub pair_in : NumberedReply → ℕ × List ℕ
pair_in entry = (entry.number, entry.reply.items)

-- a row, of as many fields as the header, says this number and this reply
pub record IsRead (columns : Columns) (row : List (List ℕ)) (pair : ℕ × List ℕ) : Type 0 where
  pub even : length row ≡ columns.width
  pub number : List ℕ
  pub number_there : field_at row columns.number ≡ Some number
  pub is_number : IsExchangeNumber number
  pub number_is : digits_value 10 number ≡ pair.0
  pub reply : List ℕ
  pub reply_there : field_at row columns.reply ≡ Some reply
  pub reply_is : reply_said reply ≡ Some pair.1

-- rows say these, one each, in their order
unfoldable pub AreResultsRead : Columns → List (List (List ℕ)) → List (ℕ × List ℕ) → Type 0
AreResultsRead columns [] [] = Unit {0}
AreResultsRead columns (row ∷ rows) (pair ∷ pairs) = IsRead columns row pair × AreResultsRead columns rows pairs
AreResultsRead columns _ _ = ⊥

-- the reply that results have for an exchange
abbrev pub answer : Results → ℕ → Option (List ℕ)
answer results n = option_map (λ given. given.reply.items) (tree.get nat_cmp results.given n)

-- the line of the row that says it
abbrev pub line_in : Results → ℕ → Option ℕ
line_in results n = option_map (λ given. given.line) (tree.get nat_cmp results.given n)

-- The text is CSV, and its records are a header with the columns that are looked for, and rows, of which no two have the same
-- number. The results have for each number the reply that the row of this number says, and none for any other.
pub record SaysResults (text : List ℕ) (results : Results) : Type 0 where
  pub header : List (List ℕ)
  pub rows : List (List (List ℕ))
  pub columns : Columns
  pub pairs : List (ℕ × List ℕ)
  pub records : AreRows text (header ∷ rows)
  pub found : AreColumns header columns
  pub read : AreResultsRead columns rows pairs
  pub once : IsDistinct nat_eq (map (λ pair. pair.0) pairs)
  pub answers : (n : ℕ) → answer results n ≡ lookup (nat_eq n) pairs
