use Rattle.std.proofs.Common.{◌≡◌, drop}
use Rattle.bus_word.specs.Mode.{is_required_code}
use Rattle.bus_legal.specs.OwnCodes.{contains_own, mode_says}
use Rattle.bus_legal.specs.Last.{last_of}
use Rattle.bus_profile.proofs.own_codes.is_own_code_legal.Given as goal

-- what is left, over what was said so far, says what all the entries say
abbrev pub invariant-loop-mode : goal.invariant-loop-mode
invariant-loop-mode l = mode_says l.legal (last_of (contains_own l.code) (drop l.mode-index l.modes)) ≡ mode_says (is_required_code l.code) (last_of (contains_own l.code) l.modes)
