-- The texts of which a key takes one.
use Rattle.std.specs.Prelude.{ℕ, List, codes}
use Rattle.bus_profile.specs.declared.choice.Addressee.{Addressee}
use Rattle.bus_profile.specs.declared.choice.Addressee.TheVariants as to
use Rattle.bus_profile.specs.declared.choice.Direction.{Direction}
use Rattle.bus_profile.specs.declared.choice.Direction.TheVariants as direction

-- the text of `to` in a profile for this addressee
abbrev pub addressee_text : Addressee → List ℕ
addressee_text to.Own = codes "own"
addressee_text to.Broadcast = codes "broadcast"
addressee_text to.Both = codes "both"

-- the text of `direction` in a profile for this direction
abbrev pub direction_text : Direction → List ℕ
direction_text direction.Receive = codes "receive"
direction_text direction.Transmit = codes "transmit"
direction_text direction.Both = codes "both"
