-- What the items that are left of a text make of a mask.
use Rattle.std.proofs.Common.{◌≡◌, ℕ, ◌+◌, ◌-◌, ◌^◌, ◌<◌, ◌≤◌, ◌==◌, ◌&&◌, ◌||◌, nat_le, Bool, true, false, cond, List, [], ◌∷◌, Option, Some, None, Result, Ok, Err, refl, ap, sym, ◌∙◌, arith}
use Rattle.std.proofs.Math.Bool.{and-false, or-false}
use Rattle.std.proofs.lemmas.Bool.Decides.{nat_tests}
use Rattle.std.proofs.lemmas.Nat.Bits.{bit_at-zero}
use Rattle.std.specs.List.{slice_split, list_all}
use Rattle.bus_profile.specs.declared.ranges.Item.{Item}
use Rattle.bus_profile.specs.declared.ranges.RangeFault.{RangeFault}
use Rattle.bus_profile.specs.declared.ranges.RangeFault.TheVariants.{Syntax, Bounds}
use Rattle.bus_word.specs.Mask.{has_bit}
use Rattle.bus_profile.specs.RangesOf.{bits_where, is_within, is_named, in_front, items_of, item_of, mask_of, ranges_of, mask_within}
use Rattle.bus_profile.specs.inner.RangeParts.{parts_after}
use Rattle.bus_profile.proofs.Bits.{bits_where-same, bits_where-whole}

-- the items of what is left, where nothing may be
abbrev pub items_left : Option (List ℕ) → Option (List Item)
items_left None = Some []
items_left (Some text) = items_of text

pub items_of-parts : (text part : List ℕ) (after : Option (List ℕ)) → slice_split (λ b. b == 44) text ≡ part ∷ parts_after 44 after → items_of text ≡ in_front (item_of part) (items_left after)
unfolding items_of
items_of-parts text part None e = rw e
items_of-parts text part (Some t) e = rw e

-- what the items that are left make of a mask
abbrev pub finish : ℕ → ℕ → Bool → ℕ → Option (List Item) → Result ℕ RangeFault
finish low high ok mask None = Err Syntax
finish low high ok mask (Some ss) = cond (ok && list_all (is_within low high) ss) (Ok (bits_where 32 (λ i. has_bit mask i || is_named ss (low + i)))) (Err Bounds)

pub finish-none : (low high : ℕ) (ok : Bool) (mask : ℕ) (text part : List ℕ) (after : Option (List ℕ))
    → slice_split (λ b. b == 44) text ≡ part ∷ parts_after 44 after → item_of part ≡ None → finish low high ok mask (items_of text) ≡ Err Syntax
finish-none low high ok mask text part after e none = rw (items_of-parts text part after e, none)

outside : (low high : ℕ) (ok : Bool) (mask : ℕ) (s : Item) (ss : Option (List Item)) → is_within low high s ≡ false → finish low high ok mask (in_front (Some s) ss) ≡ finish low high false mask ss
outside low high ok mask s None out = refl
outside low high ok mask s (Some ss) out = rw (out, and-false ok)

pub finish-outside : (low high : ℕ) (ok : Bool) (mask : ℕ) (text part : List ℕ) (after : Option (List ℕ)) (s : Item)
    → slice_split (λ b. b == 44) text ≡ part ∷ parts_after 44 after → item_of part ≡ Some s → is_within low high s ≡ false
    → finish low high ok mask (items_of text) ≡ finish low high false mask (items_left after)
finish-outside low high ok mask text part after s e some out = rw (items_of-parts text part after e, some) (outside low high ok mask s (items_left after) out)

or_assoc : (a b c : Bool) → (a || (b || c)) ≡ ((a || b) || c)
or_assoc true b c = refl
or_assoc false b c = refl

from_low : (low from i : ℕ) → low ≤ from → nat_le from (low + i) ≡ nat_le (from - low) i
from_low low from i l = grind (arith, nat_tests)

to_low : (low to i : ℕ) → low ≤ to → nat_le (low + i) to ≡ nat_le i (to - low)
to_low low to i l = grind (arith, nat_tests)

within_parts : (low high : ℕ) (s : Item) → is_within low high s ≡ true → (low ≤ s.first) × (s.first ≤ s.last)
within_parts low high s inside = (grind (arith, nat_tests), grind (arith, nat_tests))

within : (low high : ℕ) (ok : Bool) (mask wider : ℕ) (s : Item) (ss : Option (List Item)) → is_within low high s ≡ true
    → ((i : ℕ) → i < 32 → has_bit wider i ≡ (has_bit mask i || (nat_le (s.first - low) i && nat_le i (s.last - low))))
    → finish low high ok mask (in_front (Some s) ss) ≡ finish low high ok wider ss
within low high ok mask wider s None inside bits = refl
within low high ok mask wider s (Some ss) inside bits =
    let (a, b) = within_parts low high s inside in
    let to_above : low ≤ s.last = omega arith in
    let same : bits_where 32 (λ i. has_bit mask i || ((nat_le s.first (low + i) && nat_le (low + i) s.last) || is_named ss (low + i))) ≡ bits_where 32 (λ i. has_bit wider i || is_named ss (low + i))
    = bits_where-same 32 (λ i. has_bit mask i || ((nat_le s.first (low + i) && nat_le (low + i) s.last) || is_named ss (low + i))) (λ i. has_bit wider i || is_named ss (low + i)) (λ i l. rw (bits i l, from_low low s.first i a, to_low low s.last i to_above) (or_assoc (has_bit mask i) (nat_le (s.first - low) i && nat_le i (s.last - low)) (is_named ss (low + i)))) in
    rw inside (ap (λ m. cond (ok && list_all (is_within low high) ss) (Ok m) (Err Bounds)) same)

pub finish-within : (low high : ℕ) (ok : Bool) (mask wider : ℕ) (text part : List ℕ) (after : Option (List ℕ)) (s : Item)
    → slice_split (λ b. b == 44) text ≡ part ∷ parts_after 44 after → item_of part ≡ Some s → is_within low high s ≡ true
    → ((i : ℕ) → i < 32 → has_bit wider i ≡ (has_bit mask i || (nat_le (s.first - low) i && nat_le i (s.last - low))))
    → finish low high ok mask (items_of text) ≡ finish low high ok wider (items_left after)
finish-within low high ok mask wider text part after s e some inside bits =
    rw (items_of-parts text part after e, some) (within low high ok mask wider s (items_left after) inside bits)

pub finish-start : (low high : ℕ) (text : List ℕ) → finish low high true 0 (items_of text) ≡ ranges_of low high text
unfolding ranges_of mask_of
finish-start low high text = from (items_of text)
  where
    from : (ss : Option (List Item)) → finish low high true 0 ss ≡ mask_within low high ss
    from None = refl
    from (Some ss) = ap (λ m. cond (list_all (is_within low high) ss) (Ok m) (Err Bounds)) (bits_where-same 32 (λ i. has_bit 0 i || is_named ss (low + i)) (λ i. is_named ss (low + i)) (λ i l. rw (bit_at-zero i)))

pub finish-end : (low high : ℕ) (ok : Bool) (mask : ℕ) → mask < 2 ^ 32 → finish low high ok mask (Some []) ≡ cond ok (Ok mask) (Err Bounds)
finish-end low high true mask small = ap Ok (bits_where-same 32 _ _ (λ i l. or-false (has_bit mask i)) ∙ bits_where-whole 32 mask small)
finish-end low high false mask small = refl
