-- The highest bit of a mask, and the word counts that the mask has.
use Rattle.std.proofs.Common.{◌≡◌, ℕ, zero, suc, ◌+◌, ◌-◌, ◌*◌, ◌^◌, ◌<◌, ◌≤◌, ◌==◌, Bool, true, false, not, cond, refl, ap, sym, ◌∙◌, ⊎_elim, arith, pow-suc}
use Rattle.std.proofs.lemmas.Bool.{cases_lt, ne_eqb}
use Rattle.std.proofs.lemmas.Nat.Bits.{bit_at_above, bit_at_cat_high, bit_at-zero}
use Rattle.std.proofs.lemmas.Nat.{leading_top}
use Rattle.std.specs.Int.{bit_at}
use Rattle.std.specs.Int.Count.{count_leading_zeros, leading_of_zero}
use Rattle.bus_word.specs.Mask.{has_bit}
use Rattle.bus_legal.specs.Reach.{largest_to, largest_count, any_count}
use Rattle.bus_legal.specs.Tables.{largest_in, has_any}
use Rattle.bus_legal.proofs.Counts.{any_to-true, any_to-false}

-- the mask has this word count, from 1
abbrev pub has_count_of : ℕ → ℕ → Bool
has_count_of mask count = has_bit mask (count - 1)

pub zero-bit : (i : ℕ) → has_bit 0 i ≡ false
zero-bit i = rw (bit_at-zero i) refl

top_bit : (j mask : ℕ) → 2 ^ j ≤ mask → mask < 2 ^ suc j → bit_at mask j ≡ 1
top_bit j mask low high =
    let parts : mask ≡ 1 * 2 ^ j + (mask - 2 ^ j) = omega arith in
    let none : j - j ≡ 0 = omega arith in
    ap (λ n. bit_at n j) parts ∙ bit_at_cat_high 1 j (mask - 2 ^ j) j (omega (arith, pow-suc 2 j)) (omega arith) ∙ rw none refl

top_count : (j mask : ℕ) → 2 ^ j ≤ mask → mask < 2 ^ suc j → has_count_of mask (suc j) ≡ true
top_count j mask low high = let at : suc j - 1 ≡ j = omega arith in ap (has_bit mask) at ∙ ap (λ b. b == 1) (top_bit j mask low high)

above_top : (k j mask : ℕ) → mask < 2 ^ suc j → j < k → has_count_of mask (suc k) ≡ false
above_top k j mask high lt = let at : suc k - 1 ≡ k = omega arith in ap (has_bit mask) at ∙ ap (λ b. b == 1) (bit_at_above mask (suc j) k high lt)

largest-top : (k j mask : ℕ) → j < k → 2 ^ j ≤ mask → mask < 2 ^ suc j → largest_to k (has_count_of mask) ≡ suc j
largest-top zero j mask l low high = absurd (omega arith)
largest-top (suc k) j mask l low high =
    ⊎_elim
    (λ lt. ap (λ b. cond b (suc k) (largest_to k (has_count_of mask))) (above_top k j mask high lt) ∙ largest-top k j mask lt low high)
    (λ le. let e : k ≡ j = omega arith in ap (λ n. largest_to (suc n) (has_count_of mask)) e ∙ ap (λ b. cond b (suc j) (largest_to j (has_count_of mask))) (top_count j mask low high))
    (cases_lt j k)

largest-zero : (k : ℕ) → largest_to k (has_count_of 0) ≡ 0
largest-zero zero = refl
largest-zero (suc k) = ap (λ b. cond b (suc k) (largest_to k (has_count_of 0))) (zero-bit (suc k - 1)) ∙ largest-zero k

-- the largest word count of a mask, by the zeros above its highest bit
pub largest-leading : (mask : ℕ) → mask < 2 ^ 32 → 32 - count_leading_zeros 32 mask ≡ largest_in mask
unfolding largest_count
largest-leading zero l = rw (leading_of_zero 32) (sym (largest-zero 32))
largest-leading (suc n) l =
    let (j, e, low, high) = leading_top 32 (suc n) (omega arith) l in
    omega (arith, largest-top 32 j (suc n) (omega arith) low high)

-- a mask that isn't 0 has some word count
pub any_count-mask : (mask : ℕ) → mask < 2 ^ 32 → any_count (has_count_of mask) ≡ has_any mask
unfolding any_count
any_count-mask zero l = any_to-false 32 (has_count_of 0) (λ n. zero-bit (n - 1))
any_count-mask (suc n) l =
    let (j, e, low, high) = leading_top 32 (suc n) (omega arith) l in
    any_to-true 32 (has_count_of (suc n)) (suc j) (top_count j (suc n) low high) (omega arith) (omega arith)
    ∙ sym (ap not (ne_eqb (suc n) 0 (λ e. omega arith)))
