-- The answer to a text of ranges as a function of the text, by cutting it at commas and minus signs.
-- That it agrees with the grammar of `Ranges` is a clause of `parse_ranges`.
use Rattle.std.specs.Prelude.{ℕ, zero, suc, ◌+◌, ◌*◌, ◌-◌, ◌^◌, Bool, ◌==◌, ◌&&◌, nat_le, if◌then◌else◌, List, [], ◌∷◌, map, Option, Some, None, Result, Ok, Err}
use Rattle.std.specs.List.{slice_split, list_all, list_any}
use Rattle.std.specs.Char.{is_ascii_digit}
use Rattle.bus_profile.specs.declared.ranges.Item.{Item}
use Rattle.bus_profile.specs.declared.ranges.RangeFault.{RangeFault}
use Rattle.bus_profile.specs.declared.ranges.RangeFault.TheVariants.{Syntax, Bounds}
use Rattle.bus_profile.specs.Ranges.{space, comma, minus}

-- without the spaces at its front
abbrev pub trim_start : List ℕ → List ℕ
trim_start [] = []
trim_start (b ∷ bs) = if b == space then trim_start bs else b ∷ bs

-- a byte before a text, left out where it is a space and the text is empty
abbrev pub before_trimmed : ℕ → List ℕ → List ℕ
before_trimmed b [] = if b == space then [] else b ∷ []
before_trimmed b (c ∷ cs) = b ∷ c ∷ cs

-- without the spaces at its end
abbrev pub trim_end : List ℕ → List ℕ
trim_end [] = []
trim_end (b ∷ bs) = before_trimmed b (trim_end bs)

-- the number of one to three decimal digits
abbrev pub decimal_of : List ℕ → Option ℕ
decimal_of (a ∷ []) = if is_ascii_digit a then Some (a - 48) else None
decimal_of (a ∷ b ∷ []) = if is_ascii_digit a && is_ascii_digit b then Some (10 * (a - 48) + (b - 48)) else None
decimal_of (a ∷ b ∷ c ∷ []) = if (is_ascii_digit a && is_ascii_digit b) && is_ascii_digit c then Some (100 * (a - 48) + 10 * (b - 48) + (c - 48)) else None
decimal_of _ = None

-- a number with spaces before and after it
unfoldable pub range_number : List ℕ → Option ℕ
range_number text = decimal_of (trim_end (trim_start text))

-- the item of one number, or of two
abbrev pub range_item : List (Option ℕ) → Option Item
range_item (Some n ∷ []) = Some (record { first = n; last = n })
range_item (Some m ∷ Some n ∷ []) = Some (record { first = m; last = n })
range_item _ = None

-- the item of a text, by its parts between minus signs
unfoldable pub item_of : List ℕ → Option Item
item_of text = range_item (map range_number (slice_split (λ b. b == minus) text))

-- an item in front of items, where both are there
abbrev pub in_front : Option Item → Option (List Item) → Option (List Item)
in_front (Some i) (Some more) = Some (i ∷ more)
in_front _ _ = None

-- all the items, where each is there
abbrev pub all_of : List (Option Item) → Option (List Item)
all_of [] = Some []
all_of (i ∷ more) = in_front i (all_of more)

-- the items of a text, by its parts between commas
unfoldable pub items_of : List ℕ → Option (List Item)
items_of text = all_of (map item_of (slice_split (λ b. b == comma) text))

-- the item doesn't fall, and its numbers are in the range
abbrev pub is_within : ℕ → ℕ → Item → Bool
is_within low high i = (nat_le low i.first && nat_le i.first i.last) && nat_le i.last high

-- the number is one of those of the items
abbrev pub is_named : List Item → ℕ → Bool
is_named items n = list_any (λ i. nat_le i.first n && nat_le n i.last) items

-- the number below 2 ^ k whose bit i is set exactly where the test passes at i
abbrev pub bits_where : ℕ → (ℕ → Bool) → ℕ
bits_where zero p = 0
bits_where (suc k) p = (if p k then 1 else 0) * 2 ^ k + bits_where k p

-- the set of the numbers that the items name, as bits from low on
unfoldable pub mask_of : ℕ → List Item → ℕ
mask_of low items = bits_where 32 (λ i. is_named items (low + i))

-- the set of these items, or which fault there is: no items, or one that falls or leaves the range
abbrev pub mask_within : ℕ → ℕ → Option (List Item) → Result ℕ RangeFault
mask_within low high None = Err Syntax
mask_within low high (Some items) = if list_all (is_within low high) items then Ok (mask_of low items) else Err Bounds

-- what a text of ranges from low to high answers: the set of its numbers, or its fault
unfoldable pub ranges_of : ℕ → ℕ → List ℕ → Result ℕ RangeFault
ranges_of low high text = mask_within low high (items_of text)
