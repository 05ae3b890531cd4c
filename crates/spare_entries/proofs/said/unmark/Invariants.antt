use Rattle.std.proofs.Common.{◌≡◌, ◌<◌, ◌≤◌, ◌↔◌, ℕ, false, IsTrue, take, get_or}
use Rattle.bus_word.specs.Mask.{has_bit}
use Rattle.spare_entries.specs.inner.Says.{bit_after, SameBits}
use Rattle.spare_entries.proofs.said.unmark.Given as goal

-- the mask is that of the entries so far, and their marks are made
abbrev pub invariant-loop-k : goal.invariant-loop-k
invariant-loop-k l = record {
  mask : (i : ℕ) → i < 32 → has_bit l.mask i ≡ bit_after (has_bit l.start i) (take l.k l.entries) i;
  made : (j : ℕ) → j < l.k → IsTrue (get_or l.spares j false) ↔ (IsTrue (get_or l.fn.spares j false) × SameBits l.start l.numbers l.entries j);
  left : (j : ℕ) → l.k ≤ j → get_or l.spares j false ≡ get_or l.fn.spares j false;
}
