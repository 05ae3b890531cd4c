use Rattle.std.proofs.Common.{◌≡◌, ◌≤◌, ◌-◌, ◌==◌, ◌&&◌, ℕ, nat_lt}
use Rattle.bus_word.specs.Mask.{has_bit}
use Rattle.rt1553_differ.specs.inner.Alone.{alone_mask}
use Rattle.rt1553_differ.proofs.groups.subaddresses_with.Given as goal

abbrev pub invariant-loop-s : goal.invariant-loop-s
invariant-loop-s l = (t : ℕ) → 1 ≤ t → t ≤ 30 → has_bit l.bits (t - 1) ≡ (nat_lt t l.s && (l.mask == alone_mask l.p l.q l.kind l.first t))
