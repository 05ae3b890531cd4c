-- Where masks and tables first differ.
use Rattle.std.proofs.Common.{◌≡◌, ◌≢◌, ℕ, zero, suc, ◌+◌, ◌-◌, ◌%◌, ◌^◌, ◌<◌, ◌≤◌, ◌==◌, true, ◌⊎◌, inl, inr, refl, sym, ap, ◌∙◌, arith}
use Rattle.std.specs.Int.{bit_at, trailing_zeros, w32}
use Rattle.std.specs.Int.Bits.{bit_xor}
use Rattle.std.proofs.lemmas.Bool.{cases_lt}
use Rattle.std.proofs.lemmas.Nat.{xor_lt}
use Rattle.std.proofs.lemmas.Nat.Bits.{bit_at_xor, bit_at-trailing_zeros, bit_at-zero, bit_at-lt, same_from_bits}
use Rattle.bus_word.specs.Cell.{is_data_place}
use Rattle.bus_word.specs.Mask.{has_bit}
use Rattle.bus_canon.specs.inner.Search.{IsFirstNumber}

-- bits that are summed without carry
alike_bits : (a b : ℕ) → a < 2 → b < 2 → (a + b) % 2 ≡ 0 → a ≡ b
alike_bits a b l k e = omega arith

other_bits : (a b : ℕ) → a < 2 → b < 2 → (a + b) % 2 ≡ 1 → a ≢ b
other_bits a b l k e same = omega arith

-- one of two bits is a 1, as a truth value
same_set : (a b : ℕ) → a < 2 → b < 2 → (a == 1) ≡ (b == 1) → a ≡ b
same_set zero zero l k e = refl
same_set zero (suc zero) l k e = cc
same_set (suc zero) zero l k e = cc
same_set (suc zero) (suc zero) l k e = refl
same_set (suc (suc a)) b l k e = absurd (omega arith)
same_set a (suc (suc b)) l k e = absurd (omega arith)

alike_at : (a b i : ℕ) → bit_at (bit_xor a b) i ≡ 0 → bit_at a i ≡ bit_at b i
alike_at a b i e = alike_bits (bit_at a i) (bit_at b i) (bit_at-lt a i) (bit_at-lt b i) (sym (bit_at_xor a b i) ∙ e)

some_bit : (a b : ℕ) → a ≢ b → 0 < bit_xor a b
some_bit a b other = by_zero (cases_lt 0 (bit_xor a b))
  where
    by_zero : (0 < bit_xor a b) ⊎ (bit_xor a b ≤ 0) → 0 < bit_xor a b
    by_zero (inl l) = l
    by_zero (inr l) =
        let none : bit_xor a b ≡ 0 = omega arith in
        absurd (other (same_from_bits a b (λ i. alike_at a b i (ap (λ x. bit_at x i) none ∙ bit_at-zero i))))

-- the lowest bit of the sum without carry is the lowest bit that differs
pub lowest_bit : (a b : ℕ) → a < 2 ^ 32 → b < 2 ^ 32 → a ≢ b → IsFirstNumber 32 (has_bit a) (has_bit b) (trailing_zeros w32 (bit_xor a b))
lowest_bit a b l k other =
    let low : (trailing_zeros w32 (bit_xor a b) < 32) × (bit_at (bit_xor a b) (trailing_zeros w32 (bit_xor a b)) ≡ 1) × ((i : ℕ) → i < trailing_zeros w32 (bit_xor a b) → bit_at (bit_xor a b) i ≡ 0) =
    bit_at-trailing_zeros w32 (bit_xor a b) (some_bit a b other) (xor_lt 32 a b l k) in
    let i : ℕ = trailing_zeros w32 (bit_xor a b) in
    record {
      inside = low.0;
      differ = λ e. other_bits (bit_at a i) (bit_at b i) (bit_at-lt a i) (bit_at-lt b i) (sym (bit_at_xor a b i) ∙ low.1) (same_set (bit_at a i) (bit_at b i) (bit_at-lt a i) (bit_at-lt b i) e);
      alike = λ m below. ap (λ x. x == 1) (alike_at a b m (low.2 m below));
    }

module _ {X : Type 0} where
  -- tables of blocks, by subaddress and count from 1
  abbrev pub from_one : (ℕ → ℕ → X) → ℕ → ℕ → X
  from_one F s n = F (s - 1) (n - 1)

  -- alike at all places of data of the subaddresses below this
  abbrev pub AlikeBelow : (F G : ℕ → ℕ → X) → ℕ → Type 0
  AlikeBelow F G s = (t m : ℕ) → t < s → is_data_place t m ≡ true → from_one F t m ≡ from_one G t m
