use Rattle.std.proofs.Common.{ℕ, ◌≡◌, ◌<◌, slice_get}
use Rattle.rt1553_verify.proofs.replies.first_difference.Given as goal

abbrev pub invariant-loop-index : goal.invariant-loop-index
invariant-loop-index l = (k : ℕ) → k < l.index → slice_get l.expected k ≡ slice_get l.came k
