-- Bits of masks.
use Rattle.std.proofs.lemmas.Nat.Bits.{bit_at-pow_same, bit_at-pow_other}
use Rattle.std.proofs.Common.{◌≡◌, ◌*◌, ◌%◌, ℕ, suc, ◌-◌, ◌^◌, ◌<◌, ◌==◌, ◌↔◌, true, false, not, ◌&&◌, List, bit_and, bit_or, drop, get_or, length, ap, sym, ◌∙◌, arith}
use Rattle.std.specs.List.{list_any}
use Rattle.std.proofs.lemmas.Bool.{eqb-true, eq-eqb}
use Rattle.std.proofs.Math.Pow.{pow-lt}
use Rattle.std.proofs.Math.Seq.{drop-cons}
use Rattle.std.proofs.lemmas.Grind.{common_steps}
use Rattle.bus_word.specs.Mask.{has_bit}
use Rattle.bus_legal.proofs.Bits.{has_bit-or, has_bit-without, same_mask}
use Rattle.bus_legal.proofs.TopBit.{zero-bit}

-- a mask is 0 if none of its bits is set
pub zero_mask : (mask : ℕ) → mask < 2 ^ 32 → ((mask == 0) ≡ true) ↔ ((i : ℕ) → i < 32 → has_bit mask i ≡ false)
zero_mask mask small = (
  (λ e i l. ap (λ m. has_bit m i) (eqb-true mask 0 e) ∙ zero-bit i),
  (λ none. eq-eqb mask 0 (same_mask mask 0 small (omega arith) (λ i l. none i l ∙ sym (zero-bit i)))),
)

-- bits that are kept where another mask has none
pub cleared : (bits other i : ℕ) → other < 2 ^ 32 → i < 32 → has_bit (bit_and bits (0xffffffff - other)) i ≡ (not (has_bit other i) && has_bit bits i)
cleared bits other i small l = search (arith, has_bit-without)

-- the bits that some of one more mask have
pub some-more : (masks : List ℕ) (at i bits later : ℕ) → at < length masks → bits ≡ get_or masks at 0 → has_bit later i ≡ list_any (λ mask. has_bit mask i) (drop (suc at) masks) →
    has_bit (bit_or later bits) i ≡ list_any (λ mask. has_bit mask i) (drop at masks)
some-more masks at i bits later l is e = search (arith, has_bit-or, drop-cons)

-- a mask without a bit
pub bit_cleared : (mask bit i : ℕ) → bit < 32 → i < 32 → has_bit (bit_and mask (0xffffffff - 1 * 2 ^ bit % 0x1_0000_0000)) i ≡ (not (i == bit) && has_bit mask i)
bit_cleared mask bit i l m = grind (arith, common_steps, pow-lt, cleared, eqb-true, bit_at-pow_same, eq-eqb, bit_at-pow_other)
