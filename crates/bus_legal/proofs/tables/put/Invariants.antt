use Rattle.std.proofs.Common.{◌≡◌, ◌<◌, ◌&&◌, ℕ, cond, nat_lt, get_or, length}
use Rattle.bus_word.specs.Mask.{has_bit}
use Rattle.bus_legal.specs.inner.Masks.{has_both_bits}
use Rattle.bus_legal.proofs.tables.put.Given as goal

-- up to here the rule is in the masks
abbrev pub invariant-loop-s : goal.invariant-loop-s
invariant-loop-s l = record {
  bits : (k i : ℕ) → k < 30 → i < 32 → has_bit (get_or l.masks k 0) i ≡ cond (nat_lt k l.s && (l.addressed && l.direction && has_both_bits k i l.rule)) l.rule.legal (has_bit (get_or l.fn.masks k 0) i);
  whole : length l.masks ≡ 30;
}
