-- Profiles whose `Normal`s are equal have the same in reach.
use Rattle.std.proofs.Common.{◌≡◌, ◌≤◌, ◌↔◌, Bool, IsTrue, arith}
use Rattle.bus_legal.specs.Reach.{reach}
use Rattle.terminal_rules.specs.Same.{Same}
use Rattle.terminal_rules.proofs.Reach.Same.{same_where_reached, outs_from-reach}
use Rattle.bus_canon.proofs.SameLaws.{equal_where_same}
use Rattle.bus_legal.specs.Description.{Description}
use Rattle.bus_legal.specs.Parts.{Parts, description_in, IsNormal}

pub alike : (b : Bool) (v w : Parts) (P Q : Description) → P.address ≤ 30 → Q.address ≤ 30 → IsNormal v → IsNormal w → description_in v ≡ reach P → description_in w ≡ reach Q
    → (IsTrue b ↔ (v ≡ w)) → (IsTrue b ↔ Same P Q)
alike b v w P Q lp lq nv nw ev ew same = search (arith, same_where_reached, equal_where_same, outs_from-reach)
