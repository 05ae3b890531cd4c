-- Bits of masks.
use Rattle.std.proofs.Common.{◌≡◌, ℕ, zero, suc, ◌<◌, ◌==◌, refl, arith}

-- two bits that are set alike are equal
pub same_bit : (a b : ℕ) → a < 2 → b < 2 → (a == 1) ≡ (b == 1) → a ≡ b
same_bit zero zero l k e = refl
same_bit zero (suc zero) l k e = cc
same_bit (suc zero) zero l k e = cc
same_bit (suc zero) (suc zero) l k e = refl
same_bit (suc (suc a)) b l k e = absurd (omega arith)
same_bit a (suc (suc b)) l k e = absurd (omega arith)
