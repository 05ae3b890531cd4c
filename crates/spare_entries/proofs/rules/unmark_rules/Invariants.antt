use Rattle.std.proofs.Common.{◌<◌, ◌↔◌, ℕ, false, IsTrue, length, get_or}
use Rattle.spare_entries.specs.inner.Says.{SameMask}
use Rattle.spare_entries.proofs.rules.unmark_rules.Given as goal

-- the marks by the subaddresses so far
abbrev pub invariant-loop-subaddress : goal.invariant-loop-subaddress
invariant-loop-subaddress l = (k : ℕ) → k < length l.rules → IsTrue (get_or l.spares k false) ↔ (IsTrue (get_or l.fn.spares k false) × ((s : ℕ) → s < l.subaddress → SameMask l.table l.rules k s))
