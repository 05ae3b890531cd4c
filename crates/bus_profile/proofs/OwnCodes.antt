-- What the last mode entry says, entry by entry.
use Rattle.std.proofs.Common.{◌≡◌, ℕ, ◌∷◌, Bool, true, false, cond, List, Option, Some, None, refl}
use Rattle.bus_legal.specs.declared.entries.ModeRule.{ModeRule}
use Rattle.bus_legal.specs.OwnCodes.{contains_own, mode_says}
use Rattle.bus_legal.specs.Last.{or_last, last_of}

-- an entry in front says only what none after it says
pub last_says : (legal : Bool) (code : ℕ) (m : ModeRule) (ms : List ModeRule)
    → mode_says legal (last_of (contains_own code) (m ∷ ms)) ≡ mode_says (cond (contains_own code m) m.legal legal) (last_of (contains_own code) ms)
last_says legal code m ms = pick (last_of (contains_own code) ms) (contains_own code m)
  where
    pick : (o : Option ModeRule) (b : Bool) → mode_says legal (or_last o (cond b (Some m) None)) ≡ mode_says (cond b m.legal legal) o
    pick None true = refl
    pick None false = refl
    pick (Some n) b = refl
