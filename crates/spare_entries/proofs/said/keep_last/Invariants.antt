use Rattle.std.proofs.Common.{◌≡◌, ◌<◌, ◌≤◌, ◌&&◌, ℕ, suc, not, length, drop, get_or}
use Rattle.std.specs.List.{list_any}
use Rattle.bus_word.specs.Mask.{has_bit}
use Rattle.spare_entries.proofs.said.keep_last.Given as goal

-- from here on the masks have their own last bits, and `later` has all of their bits
abbrev pub invariant-loop-k : goal.invariant-loop-k
invariant-loop-k l = record {
  later : (i : ℕ) → i < 32 → has_bit l.later i ≡ list_any (λ mask. has_bit mask i) (drop l.k l.fn.masks);
  done : (j i : ℕ) → l.k ≤ j → j < length l.fn.masks → i < 32 → has_bit (get_or l.masks j 0) i ≡ (not (list_any (λ mask. has_bit mask i) (drop (suc j) l.fn.masks)) && has_bit (get_or l.fn.masks j 0) i);
  left : (j : ℕ) → j < l.k → get_or l.masks j 0 ≡ get_or l.fn.masks j 0;
}
