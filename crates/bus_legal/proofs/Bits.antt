-- Bits of masks.
use Rattle.std.proofs.Common.{◌≡◌, ℕ, zero, suc, ◌-◌, ◌^◌, ◌<◌, ◌≤◌, ◌==◌, Bool, true, false, ◌&&◌, cond, bit_and, bit_or, max, min, refl, ap, ◌∙◌, ⊎_elim, arith}
use Rattle.std.proofs.lemmas.Bool.{cases_lt}
use Rattle.std.proofs.lemmas.Nat.{and_le_r}
use Rattle.std.proofs.lemmas.Nat.Bits.{bit_at_or, bit_at_and, bit_at_not, bit_at-lt, same_from_bits_below}
use Rattle.std.specs.Int.{bit_at, w32}
use Rattle.bus_word.specs.Mask.{has_bit}
use Rattle.bus_word.proofs.MaskLaws.{same_bit}
use Rattle.bus_legal.proofs.Bools.{left_of, right_of}

or_bit : (a b : ℕ) → a < 2 → b < 2 → (max a b == 1) ≡ cond (b == 1) true (a == 1)
or_bit zero zero l k = refl
or_bit zero (suc zero) l k = refl
or_bit (suc zero) zero l k = refl
or_bit (suc zero) (suc zero) l k = refl
or_bit (suc (suc a)) b l k = absurd (omega arith)
or_bit a (suc (suc b)) l k = absurd (omega arith)

without_bit : (a b : ℕ) → a < 2 → b < 2 → (min a (1 - b) == 1) ≡ cond (b == 1) false (a == 1)
without_bit zero zero l k = refl
without_bit zero (suc zero) l k = refl
without_bit (suc zero) zero l k = refl
without_bit (suc zero) (suc zero) l k = refl
without_bit (suc (suc a)) b l k = absurd (omega arith)
without_bit a (suc (suc b)) l k = absurd (omega arith)

-- the bits of a mask with others set
pub has_bit-or : (mask given i : ℕ) → has_bit (bit_or mask given) i ≡ cond (has_bit given i) true (has_bit mask i)
has_bit-or mask given i = rw (bit_at_or mask given i) (or_bit (bit_at mask i) (bit_at given i) (bit_at-lt mask i) (bit_at-lt given i))

-- the bits of a mask with others cleared
pub has_bit-without : (mask given i : ℕ) → given < 2 ^ 32 → i < 32 → has_bit (bit_and mask (0xffffffff - given)) i ≡ cond (has_bit given i) false (has_bit mask i)
has_bit-without mask given i small l =
    rw (bit_at_and mask (0xffffffff - given) i, bit_at_not w32 given i small l) (without_bit (bit_at mask i) (bit_at given i) (bit_at-lt mask i) (bit_at-lt given i))

pub has_bit-and : (a b i : ℕ) → has_bit (bit_and a b) i ≡ (has_bit b i && has_bit a i)
has_bit-and a b i = rw (bit_at_and a b i) (both_bits (bit_at a i) (bit_at b i) (bit_at-lt a i) (bit_at-lt b i))
  where
    both_bits : (a b : ℕ) → a < 2 → b < 2 → (min a b == 1) ≡ ((b == 1) && (a == 1))
    both_bits zero zero l k = refl
    both_bits zero (suc zero) l k = refl
    both_bits (suc zero) zero l k = refl
    both_bits (suc zero) (suc zero) l k = refl
    both_bits (suc (suc a)) b l k = absurd (omega arith)
    both_bits a (suc (suc b)) l k = absurd (omega arith)

-- what holds of each number below one, by a test of each
abbrev pub all_below : ℕ → (ℕ → Bool) → Bool
all_below zero p = true
all_below (suc n) p = p n && all_below n p

pub each_below : (n : ℕ) (p : ℕ → Bool) → all_below n p ≡ true → (i : ℕ) → i < n → p i ≡ true
each_below zero p e i l = absurd (omega arith)
each_below (suc n) p e i l =
    ⊎_elim (λ lt. each_below n p (right_of (p n) (all_below n p) e) i lt) (λ le. let at : i ≡ n = omega arith in ap p at ∙ left_of (p n) (all_below n p) e) (cases_lt i n)

-- masks with the same bits are equal
pub same_mask : (a b : ℕ) → a < 2 ^ 32 → b < 2 ^ 32 → ((i : ℕ) → i < 32 → has_bit a i ≡ has_bit b i) → a ≡ b
same_mask a b l k same = same_from_bits_below 32 a b l k (λ i m. same_bit (bit_at a i) (bit_at b i) (bit_at-lt a i) (bit_at-lt b i) (same i m))

-- of a mask that has all these bits just these bits are left
pub and-contained : (mask bits : ℕ) → bits < 2 ^ 32 → ((i : ℕ) → i < 32 → has_bit bits i ≡ true → has_bit mask i ≡ true) → bit_and mask bits ≡ bits
and-contained mask bits l has =
    let below : bit_and mask bits ≤ bits = and_le_r mask bits in
    same_mask (bit_and mask bits) bits (omega arith) l (λ i m. has_bit-and mask bits i ∙ kept (has_bit bits i) (has_bit mask i) (has i m))
  where
    kept : (a b : Bool) → (a ≡ true → b ≡ true) → (a && b) ≡ a
    kept true b h = h refl
    kept false b h = refl
