use Rattle.std.proofs.Common.{◌≡◌, ◌<◌, ℕ, take}
use Rattle.bus_word.specs.Mode.{is_required_code}
use Rattle.bus_legal.specs.Last.{last_of}
use Rattle.bus_word.specs.Mask.{has_bit}
use Rattle.bus_legal.specs.OwnCodes.{contains_own, mode_says}
use Rattle.bus_legal.proofs.tables.own_mode_mask.Given as goal

-- the mask is that of the mode entries so far
abbrev pub invariant-loop-mode : goal.invariant-loop-mode
invariant-loop-mode l = (k : ℕ) → k < 32 → has_bit l.mask k ≡ mode_says (is_required_code k) (last_of (contains_own k) (take l.mode-index l.modes))
