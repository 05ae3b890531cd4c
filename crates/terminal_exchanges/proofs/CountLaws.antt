-- The least word count that passes, and that of a mask.
use Rattle.std.proofs.Common.{◌≡◌, ◌≢◌, ℕ, zero, suc, ◌+◌, ◌-◌, ◌^◌, ◌<◌, ◌≤◌, ◌==◌, Bool, true, false, ◌&&◌, ◌||◌, cond, ◌⊎◌, inl, inr, List, refl, sym, ap, ◌∙◌, arith, get_or}
use Rattle.std.specs.Int.{bit_at, trailing_zeros, w32}
use Rattle.std.proofs.lemmas.Bool.{cases_lt}
use Rattle.std.proofs.lemmas.Bool.Decides.{nat_tests}
use Rattle.std.proofs.lemmas.Nat.Bits.{bit_at-trailing_zeros, bit_at-zero}
use Rattle.bus_word.specs.Mask.{has_bit}
use Rattle.bus_word.specs.Cell.{is_data_place}
use Rattle.bus_legal.specs.Reach.{any_to}
use Rattle.bus_legal.specs.Tables.{has_count}
use Rattle.bus_legal.proofs.Counts.{any_to-true}
use Rattle.terminal_exchanges.specs.Distinguish.{least_to, least_count}
use Rattle.terminal_exchanges.specs.inner.Counts.{least_in}

-- no number passes
none_to : (n : ℕ) (p : ℕ → Bool) → ((m : ℕ) → 1 ≤ m → m ≤ n → p m ≡ false) → any_to n p ≡ false
none_to zero p none = refl
none_to (suc n) p none = ap (λ b. b || any_to n p) (none (suc n) (omega arith) (omega arith)) ∙ none_to n p (λ m low high. none m low (omega arith))

least_to-none : (n : ℕ) (p : ℕ → Bool) → ((m : ℕ) → 1 ≤ m → m ≤ n → p m ≡ false) → least_to n p ≡ 0
least_to-none zero p none = refl
least_to-none (suc n) p none =
    (λ j. cond (none_to n p (λ m low high. none m low (omega arith)) j) (least_to n p) (cond (none (suc n) (omega arith) (omega arith) j) (suc n) 0))

-- the number that passes, and none below it does, is the least
least_to-is : (n : ℕ) (p : ℕ → Bool) (k : ℕ) → p k ≡ true → 1 ≤ k → k ≤ n → ((m : ℕ) → 1 ≤ m → m < k → p m ≡ false) → least_to n p ≡ k
least_to-is zero p k e low high none = absurd (omega arith)
least_to-is (suc n) p k e low high none = by_last (cases_lt k (suc n)) (least_to-is n p k e low)
  where
    by_last : (k < suc n) ⊎ (suc n ≤ k) → (k ≤ n → ((m : ℕ) → 1 ≤ m → m < k → p m ≡ false) → least_to n p ≡ k) →
        cond (any_to n p) (least_to n p) (cond (p (suc n)) (suc n) 0) ≡ k
    by_last (inl lt) f = ap (λ b. cond b (least_to n p) (cond (p (suc n)) (suc n) 0)) (any_to-true n p k e low (omega arith)) ∙ f (omega arith) none
    by_last (inr le) f =
        let at : k ≡ suc n = omega arith in
        (λ j. cond (none_to n p (λ m from to. none m from (omega arith)) j) (least_to n p) (cond ((ap p (sym at) ∙ e) j) (suc n) 0)) ∙ sym at

-- tests that agree on the numbers from 1 to n
any_to-alike : (n : ℕ) (p q : ℕ → Bool) → ((m : ℕ) → 1 ≤ m → m ≤ n → p m ≡ q m) → any_to n p ≡ any_to n q
any_to-alike zero p q same = refl
any_to-alike (suc n) p q same = (λ j. same (suc n) (omega arith) (omega arith) j || any_to-alike n p q (λ m low high. same m low (omega arith)) j)

least_to-alike : (n : ℕ) (p q : ℕ → Bool) → ((m : ℕ) → 1 ≤ m → m ≤ n → p m ≡ q m) → least_to n p ≡ least_to n q
least_to-alike zero p q same = refl
least_to-alike (suc n) p q same =
    (λ j. cond (any_to-alike n p q (λ m low high. same m low (omega arith)) j) (least_to-alike n p q (λ m low high. same m low (omega arith)) j) (cond (same (suc n) (omega arith) (omega arith) j) (suc n) 0))

least_count-alike : (p q : ℕ → Bool) → ((m : ℕ) → 1 ≤ m → m ≤ 32 → p m ≡ q m) → least_count p ≡ least_count q
unfolding least_count
least_count-alike p q same = least_to-alike 32 p q same

-- the least word count of a mask, by its lowest bit
pub least_of_none : (mask : ℕ) → mask ≡ 0 → 0 ≡ least_in mask
unfolding least_count
least_of_none mask none = sym (least_to-none 32 (λ count. has_bit mask (count - 1)) (λ m low high. ap (λ x. x == 1) (ap (λ x. bit_at x (m - 1)) none ∙ bit_at-zero (m - 1))))

pub least_of_some : (mask : ℕ) → mask < 2 ^ 32 → mask ≢ 0 → trailing_zeros w32 mask + 1 ≡ least_in mask
unfolding least_count
least_of_some mask fits some =
    let low : (trailing_zeros w32 mask < 32) × (bit_at mask (trailing_zeros w32 mask) ≡ 1) × ((i : ℕ) → i < trailing_zeros w32 mask → bit_at mask i ≡ 0) =
    bit_at-trailing_zeros w32 mask (omega arith) fits in
    let i : ℕ = trailing_zeros w32 mask in
    let back : i + 1 - 1 ≡ i = omega arith in
    let inside : i < 32 = low.0 in
    sym (least_to-is 32 (λ count. has_bit mask (count - 1)) (i + 1) (ap (λ x. x == 1) (ap (bit_at mask) back ∙ low.1)) (omega arith) (omega arith)
    (λ m from below. ap (λ x. x == 1) (low.2 (m - 1) (omega arith))))

place_of : (s n : ℕ) → 1 ≤ s → s ≤ 30 → 1 ≤ n → n ≤ 32 → is_data_place s n ≡ true
place_of s n a b c d = grind (arith, nat_tests)

-- the least legal word count is the least in the mask
pub least_count-said : (masks : List ℕ) (s : ℕ) → 1 ≤ s → s ≤ 30 → least_count (λ n. is_data_place s n && has_count masks s n) ≡ least_in (get_or masks (s - 1) 0)
least_count-said masks s a b =
    least_count-alike (λ n. is_data_place s n && has_count masks s n) (λ n. has_count masks s n) (λ n c d. ap (λ t. t && has_count masks s n) (place_of s n a b c d))
