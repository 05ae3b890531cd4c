use Rattle.std.proofs.Common.{◌≡◌, ◌≢◌, ◌<◌, ◌+◌, ℕ, take, get_or, length, HoldsAt}
use Rattle.bus_legal.specs.Initial.{initial_word}
use Rattle.spare_entries.specs.inner.Words.{IsMarked}
use Rattle.spare_entries.proofs.initials.mark_initials.Given as goal

-- the row holds the words of the entries so far, and those of the subaddress are marked
abbrev pub invariant-loop-k : goal.invariant-loop-k
invariant-loop-k l = record {
  row : (i : ℕ) → i < 32 → get_or l.row i 0 ≡ initial_word (take l.k l.entries) l.subaddress (i + 1);
  made : (j : ℕ) → j < l.k → HoldsAt (λ e. e.subaddress ≡ l.subaddress → HoldsAt (IsMarked l.sent l.entries j) l.spares j) l.entries j;
  left : (j : ℕ) → j < length l.entries → HoldsAt (λ e. e.subaddress ≢ l.subaddress → HoldsAt (λ old. HoldsAt (λ new. new ≡ old) l.spares j) l.fn.spares j) l.entries j;
}
