-- A code that can't be legal has no bit in a mask of mode codes.
use Rattle.std.proofs.Common.{◌≡◌, ℕ, ◌<◌, Bool, true, ◌&&◌, bit_and, is_some, ap, sym, ◌∙◌}
use Rattle.std.proofs.lemmas.Bool.{eqb-true}
use Rattle.bus_word.specs.Cell.{allows_broadcast}
use Rattle.bus_word.specs.Mode.{mode_row}
use Rattle.bus_word.specs.Mask.{has_bit}
use Rattle.bus_legal.specs.Tables.{is_own_mask, is_broadcast_mask}
use Rattle.bus_legal.proofs.Bits.{has_bit-and}
use Rattle.bus_legal.proofs.Bools.{left_of}
use Rattle.bus_legal.proofs.TableSteps.{own_codes-bits, broadcast_codes-bits}

-- a mask that has none but these bits
no_other : (mask codes : ℕ) (may_be : ℕ → Bool) → bit_and mask codes ≡ mask → ((c : ℕ) → c < 32 → has_bit codes c ≡ may_be c) → (c : ℕ) → c < 32 →
    has_bit mask c ≡ (may_be c && has_bit mask c)
no_other mask codes may_be e table c l = ap (λ m. has_bit m c) (sym e) ∙ (has_bit-and mask codes c ∙ ap (λ b. b && has_bit mask c) (table c l))

pub own_legal : (mask : ℕ) → is_own_mask mask ≡ true → (c : ℕ) → c < 32 → has_bit mask c ≡ (is_some (mode_row c) && has_bit mask c)
own_legal mask e = no_other mask 0x000f01ff (λ c. is_some (mode_row c)) (eqb-true (bit_and mask 0x000f01ff) mask (left_of _ _ e)) own_codes-bits

pub broadcast_legal : (mask : ℕ) → is_broadcast_mask mask ≡ true → (c : ℕ) → c < 32 → has_bit mask c ≡ (allows_broadcast (mode_row c) && has_bit mask c)
broadcast_legal mask e = no_other mask 0x000201fa (λ c. allows_broadcast (mode_row c)) (eqb-true (bit_and mask 0x000201fa) mask e) broadcast_codes-bits
