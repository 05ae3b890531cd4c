-- Masks, as the numbers whose bits pass a test.
use Rattle.std.proofs.Common.{◌≡◌, ◌≢◌, ℕ, zero, suc, ◌+◌, ◌-◌, ◌*◌, ◌^◌, ◌%◌, ◌<◌, ◌≤◌, ◌==◌, ◌&&◌, ◌||◌, nat_le, nat_lt, Bool, true, false, cond, refl, sym, arith, ⊎_elim}
use Rattle.std.proofs.lemmas.Bool.Decides.{nat_tests}
use Rattle.std.proofs.lemmas.Bool.{cases_lt}
use Rattle.std.proofs.lemmas.Nat.Bits.{bit_at_cat_low, bit_at_cat_high, bit_at-lt, bit_at-zero, same_from_bits_below, bit_at_set_same, bit_at_set_other}
use Rattle.std.proofs.Math.Bool.{or-false, or-true}
use Rattle.std.proofs.Math.Nat.{pow-suc}
use Rattle.std.specs.Int.{w32}
use Rattle.std.specs.Prelude.{bit_or}
use Rattle.bus_word.specs.Mask.{has_bit}
use Rattle.bus_word.proofs.MaskLaws.{same_bit}
use Rattle.bus_profile.specs.RangesOf.{bits_where}

pub bits_where-small : (k : ℕ) (p : ℕ → Bool) → bits_where k p < 2 ^ k
bits_where-small zero p = omega arith
bits_where-small (suc k) p = pick (p k) (bits_where-small k p)
  where
    pick : (b : Bool) → bits_where k p < 2 ^ k → cond b 1 0 * 2 ^ k + bits_where k p < 2 ^ suc k
    pick true h = omega (arith, pow-suc 2 k)
    pick false h = omega (arith, pow-suc 2 k)

-- the bit at i is what the test says
pub bits_where-bit : (k : ℕ) (p : ℕ → Bool) (i : ℕ) → i < k → has_bit (bits_where k p) i ≡ p i
bits_where-bit zero p i l = absurd (omega arith)
bits_where-bit (suc k) p i l = ⊎_elim (λ lt. below lt (bits_where-bit k p i lt)) here (cases_lt i k)
  where
    below : i < k → has_bit (bits_where k p) i ≡ p i → has_bit (bits_where (suc k) p) i ≡ p i
    below lt ih = rw (bit_at_cat_low (cond (p k) 1 0) k (bits_where k p) i lt) ih

    top : (b : Bool) → has_bit (cond b 1 0 * 2 ^ k + bits_where k p) k ≡ b
    top true = let e : k - k ≡ 0 = omega arith in rw (bit_at_cat_high 1 k (bits_where k p) k (bits_where-small k p) (omega arith), e)
    top false = rw (bit_at_cat_high 0 k (bits_where k p) k (bits_where-small k p) (omega arith), bit_at-zero (k - k))

    here : k ≤ i → has_bit (bits_where (suc k) p) i ≡ p i
    here le = let e : i ≡ k = omega arith in rw e (top (p k))

pub bits_where-same : (k : ℕ) (p q : ℕ → Bool) → ((i : ℕ) → i < k → p i ≡ q i) → bits_where k p ≡ bits_where k q
bits_where-same zero p q h = refl
bits_where-same (suc k) p q h = rw (h k (omega arith), bits_where-same k p q (λ i l. h i (omega arith)))

-- a number is that of its bits
pub bits_where-whole : (k n : ℕ) → n < 2 ^ k → bits_where k (has_bit n) ≡ n
bits_where-whole k n small =
    same_from_bits_below k _ n (bits_where-small k (has_bit n)) small
    (λ i l. same_bit _ _ (bit_at-lt _ i) (bit_at-lt n i) (bits_where-bit k (has_bit n) i l))

-- one more bit set
pub has_bit-set : (n k i : ℕ) → k < 32 → has_bit (bit_or n (1 * 2 ^ k % 2 ^ 32)) i ≡ (has_bit n i || (i == k))
has_bit-set n k i within = ⊎_elim less (λ le. ⊎_elim more (λ le'. same (omega arith)) (cases_lt k i)) (cases_lt i k)
  where
    other : i ≢ k → has_bit (bit_or n (1 * 2 ^ k % 2 ^ 32)) i ≡ (has_bit n i || (i == k))
    other apart = let no : (i == k) ≡ false = grind (arith, nat_tests) in rw (bit_at_set_other w32 n k within i apart, no) (sym (or-false (has_bit n i)))

    less : i < k → has_bit (bit_or n (1 * 2 ^ k % 2 ^ 32)) i ≡ (has_bit n i || (i == k))
    less l = other (λ e. absurd (omega arith))

    more : k < i → has_bit (bit_or n (1 * 2 ^ k % 2 ^ 32)) i ≡ (has_bit n i || (i == k))
    more l = other (λ e. absurd (omega arith))

    same : i ≡ k → has_bit (bit_or n (1 * 2 ^ k % 2 ^ 32)) i ≡ (has_bit n i || (i == k))
    same e = let yes : (i == k) ≡ true = grind (arith, nat_tests) in rw (yes, e, bit_at_set_same w32 n k within) (sym (or-true (has_bit n k)))

-- the step of a loop that sets the bits from first on
pub with_next : (h : Bool) (first bit i : ℕ) → first ≤ bit → ((h || (nat_le first i && nat_lt i bit)) || (i == bit)) ≡ (h || (nat_le first i && nat_lt i (bit + 1)))
with_next true first bit i l = refl
with_next false first bit i l = grind (arith, nat_tests)

pub with_last : (h : Bool) (first bit last i : ℕ) → bit ≡ last + 1 → (h || (nat_le first i && nat_lt i bit)) ≡ (h || (nat_le first i && nat_le i last))
with_last true first bit last i e = refl
with_last false first bit last i e = grind (arith, nat_tests)

-- a predicate that holds of nothing from j on needs no more than j bits
pub bits_where-cut : (k j : ℕ) (p : ℕ → Bool) → j ≤ k → ((i : ℕ) → j ≤ i → p i ≡ false) → bits_where k p < 2 ^ j
bits_where-cut zero j p l none = let e : j ≡ 0 = omega arith in rw e (omega arith)
bits_where-cut (suc k) j p l none = ⊎_elim (λ lt. let ih = bits_where-cut k j p (omega arith) none in rw (none k (omega arith)) (omega (arith, ih))) (λ le. let e : j ≡ suc k = omega arith in rw e (bits_where-small (suc k) p)) (cases_lt j (suc k))
