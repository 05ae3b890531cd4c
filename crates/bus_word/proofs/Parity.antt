-- Ones counted in a list of bits, and ones counted at once; the parity of a valid word.
use Rattle.std.proofs.Common.{◌≡◌, ℕ, zero, suc, ◌+◌, ◌*◌, ◌/◌, ◌%◌, ◌^◌, ◌<◌, ◌==◌, Bool, true, false, not, refl, sym, ◌∙◌, ap, arith, pow-suc}
use Rattle.std.proofs.lemmas.Bool.Decides.{nat_tests}
use Rattle.std.proofs.lemmas.Nat.{ones_cat}
use Rattle.std.specs.Int.RustNames.{count_ones}
use Rattle.bus_word.specs.Word.{bit_of, low_bits, ones}
use Rattle.bus_word.specs.Laws.{OneValidWord}

-- a bit is its own number of ones
count_ones-bit : (b : ℕ) → b < 2 → count_ones b ≡ b
unfolding count_ones
count_ones-bit zero h = refl
count_ones-bit (suc zero) h = refl
count_ones-bit (suc (suc b)) h = absurd (omega arith)

count_ones-zero : (n : ℕ) → n ≡ 0 → 0 ≡ count_ones n
count_ones-zero n e = sym (ap count_ones e ∙ count_ones-bit 0 (omega arith))

-- the ones of a number: those of its half, and its lowest bit
count_ones-half : (n : ℕ) → count_ones n ≡ n % 2 + count_ones (n / 2)
count_ones-half n =
    let whole : n ≡ n / 2 * 2 ^ 1 + n % 2 = omega arith in
    let low : n % 2 < 2 ^ 1 = omega arith in
    let apart : count_ones (n / 2 * 2 ^ 1 + n % 2) ≡ count_ones (n / 2) + count_ones (n % 2) = ones_cat 1 (n / 2) (n % 2) low in
    let bit : count_ones (n % 2) ≡ n % 2 = count_ones-bit (n % 2) (omega arith) in
    let e : count_ones n ≡ count_ones (n / 2 * 2 ^ 1 + n % 2) = ap count_ones whole in
    omega arith

half_below : (k n : ℕ) → n < 2 ^ suc k → n / 2 < 2 ^ k
half_below k n h = let e : 2 ^ suc k ≡ 2 ^ k * 2 = pow-suc 2 k in omega arith

-- the ones among the k lowest bits of a number that has no others
pub ones-low_bits : (k n : ℕ) → n < 2 ^ k → ones (low_bits k n) ≡ count_ones n
ones-low_bits zero n h = count_ones-zero n (omega arith)
ones-low_bits (suc k) n h = ap (λ m. n % 2 + m) (ones-low_bits k (n / 2) (half_below k n h)) ∙ sym (count_ones-half n)

-- one more bit, set where the number of ones is even, makes it odd
pub odd_with_parity : (n : ℕ) → ((bit_of (n % 2 == 0) + n) % 2 == 1) ≡ true
odd_with_parity n = grind arith

-- a parity bit makes the number of ones odd where it is set and they are even, or is not and they are odd
pub odd_where_even : (n : ℕ) → (n % 2 == 0) ≡ ((1 + n) % 2 == 1)
odd_where_even n = grind arith

pub odd_where_odd : (n : ℕ) → not (n % 2 == 0) ≡ ((0 + n) % 2 == 1)
odd_where_odd n = grind (arith, nat_tests)

-- a parity bit that makes the number of ones odd is set where that number is even
parity_law : (n : ℕ) (p : Bool) → ((bit_of p + n) % 2 == 1) ≡ true → p ≡ (n % 2 == 0)
parity_law n p e = by_parity p e
  where
    by_parity : (p : Bool) → ((bit_of p + n) % 2 == 1) ≡ true → p ≡ (n % 2 == 0)
    by_parity true e = grind (arith, nat_tests)
    by_parity false e = grind (arith, nat_tests)

-- a word is valid in one way only: it is the valid word of its sync and its bits
pub valid_word_law : OneValidWord
valid_word_law w e = ap (λ p. record w { parity = p }) (parity_law (ones (low_bits 16 w.bits)) w.parity e)
