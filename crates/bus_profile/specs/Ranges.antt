-- Texts of ranges as a grammar: the items of which a text consists, and the numbers that they name.
use Rattle.std.specs.Prelude.{◌≡◌, ℕ, ◌+◌, ◌*◌, ◌^◌, ◌-◌, ◌≤◌, List, [], ◌∷◌, ◌++◌, ◌⊎◌, ◌↔◌, ◌<◌, IsTrue, Result, Ok, Err}
use Rattle.bus_profile.specs.declared.ranges.Item.{Item}
use Rattle.bus_profile.specs.declared.ranges.RangeFault.{RangeFault}
use Rattle.bus_profile.specs.declared.ranges.RangeFault.TheVariants.{Syntax, Bounds}
use Rattle.bus_word.specs.Mask.{has_bit}

-- the byte of a space
abbrev pub space : ℕ
space = 32

-- the byte of a comma
abbrev pub comma : ℕ
comma = 44

-- the byte of a minus sign
abbrev pub minus : ℕ
minus = 45

-- any number of spaces
abbrev pub AreSpaces : List ℕ → Type 0
AreSpaces [] = Unit {0}
AreSpaces (b ∷ bs) = (b ≡ space) × AreSpaces bs

-- a decimal digit, 0 to 9
abbrev pub IsDigit : ℕ → Type 0
IsDigit b = (48 ≤ b) × (b ≤ 57)

-- one to three decimal digits, and their number
abbrev pub AreDigits : List ℕ → ℕ → Type 0
AreDigits (a ∷ []) n = IsDigit a × (n ≡ a - 48)
AreDigits (a ∷ b ∷ []) n = IsDigit a × IsDigit b × (n ≡ 10 * (a - 48) + (b - 48))
AreDigits (a ∷ b ∷ c ∷ []) n = IsDigit a × IsDigit b × IsDigit c × (n ≡ 100 * (a - 48) + 10 * (b - 48) + (c - 48))
AreDigits _ n = ⊥

-- digits with spaces before and after them
pub record IsNumber (text : List ℕ) (n : ℕ) : Type 0 where
  pub before : List ℕ
  pub digits : List ℕ
  pub after : List ℕ
  pub is : text ≡ before ++ (digits ++ after)
  pub spaces_before : AreSpaces before
  pub spaces_after : AreSpaces after
  pub value : AreDigits digits n

-- two numbers with a minus sign between them
pub record IsPair (text : List ℕ) (low high : ℕ) : Type 0 where
  pub left : List ℕ
  pub right : List ℕ
  pub is : text ≡ left ++ (minus ∷ right)
  pub first : IsNumber left low
  pub last : IsNumber right high

-- a number, which stands for itself alone, or a pair
abbrev pub IsItem : List ℕ → Item → Type 0
IsItem text i = (IsNumber text i.first × (i.last ≡ i.first)) ⊎ IsPair text i.first i.last

-- The text is one or more items, just these, with commas between them.
abbrev pub Denotes : List ℕ → List Item → Type 0
Denotes text [] = ⊥
Denotes text (i ∷ []) = IsItem text i
Denotes text (i ∷ j ∷ more) = (part : List ℕ) × (rest : List ℕ) × (text ≡ part ++ (comma ∷ rest)) × IsItem part i × Denotes rest (j ∷ more)

-- the item doesn't fall, and its numbers are in the range
abbrev pub IsWithin : ℕ → ℕ → Item → Type 0
IsWithin low high i = (low ≤ i.first) × (i.first ≤ i.last) × (i.last ≤ high)

-- no item falls, and all numbers are in the range
abbrev pub AreWithin : ℕ → ℕ → List Item → Type 0
AreWithin low high [] = Unit {0}
AreWithin low high (i ∷ more) = IsWithin low high i × AreWithin low high more

-- the number is one of those of the items
abbrev pub Names : List Item → ℕ → Type 0
Names [] n = ⊥
Names (i ∷ more) n = ((i.first ≤ n) × (n ≤ i.last)) ⊎ Names more n

-- The items of the text are in the range, and the mask is the set of the numbers that they name.
pub record IsMask (text : List ℕ) (low high mask : ℕ) : Type 0 where
  pub items : List Item
  pub denoted : Denotes text items
  -- a text has no other items
  pub only : (others : List Item) → Denotes text others → others ≡ items
  pub within : AreWithin low high items
  pub bits : (n : ℕ) → low ≤ n → n < low + 32 → IsTrue (has_bit mask (n - low)) ↔ Names items n
  -- no bit above that of the highest number
  pub small : mask < 2 ^ (high - low + 1)

-- The text consists of items, and they are not all in the range.
pub record IsOutside (text : List ℕ) (low high : ℕ) : Type 0 where
  pub items : List Item
  pub denoted : Denotes text items
  pub only : (others : List Item) → Denotes text others → others ≡ items
  pub outside : AreWithin low high items → ⊥

-- What reading a text of ranges answers: the set, or that the text has no items, or that they are
-- not all in the range.
abbrev pub IsReading : List ℕ → ℕ → ℕ → Result ℕ RangeFault → Type 0
IsReading text low high (Ok mask) = IsMask text low high mask
IsReading text low high (Err Syntax) = (items : List Item) → Denotes text items → ⊥
IsReading text low high (Err Bounds) = IsOutside text low high
