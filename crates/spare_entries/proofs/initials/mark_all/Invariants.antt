use Rattle.std.proofs.Common.{◌<◌, ◌≤◌, ℕ, length, HoldsAt}
use Rattle.spare_entries.specs.inner.Words.{IsMarked}
use Rattle.spare_entries.proofs.initials.mark_all.Given as goal

-- the entries of the subaddresses so far are marked
abbrev pub invariant-loop-subaddress : goal.invariant-loop-subaddress
invariant-loop-subaddress l = record {
  from : 1 ≤ l.subaddress;
  made : (k : ℕ) → k < length l.entries → HoldsAt (λ e. e.subaddress < l.subaddress → HoldsAt (IsMarked l.sent l.entries k) l.spares k) l.entries k;
}
