use Rattle.std.proofs.Common.{◌≡◌, ◌<◌, ℕ, false, take}
use Rattle.bus_legal.specs.Last.{last_of}
use Rattle.bus_word.specs.Mask.{has_bit}
use Rattle.bus_legal.specs.OwnCodes.{mode_says}
use Rattle.bus_legal.specs.Legal.{contains_broadcast}
use Rattle.bus_legal.proofs.tables.broadcast_mode_mask.Given as goal

-- the mask is that of the mode entries so far
abbrev pub invariant-loop-mode : goal.invariant-loop-mode
invariant-loop-mode l = (k : ℕ) → k < 32 → has_bit l.mask k ≡ mode_says false (last_of (contains_broadcast k) (take l.mode-index l.modes))
