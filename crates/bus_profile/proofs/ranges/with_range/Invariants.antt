use Rattle.std.proofs.Common.{◌≡◌, ℕ, ◌<◌, ◌||◌, ◌&&◌, nat_le, nat_lt}
use Rattle.bus_word.specs.Mask.{has_bit}
use Rattle.bus_profile.proofs.ranges.with_range.Given as goal

abbrev pub invariant-loop-bit : goal.invariant-loop-bit
invariant-loop-bit l = (i : ℕ) → i < 32 → has_bit l.wider i ≡ (has_bit l.mask i || (nat_le l.first i && nat_lt i l.bit))
