use Rattle.std.proofs.Common.{[], get_or}
use Rattle.bus_canon.proofs.PlaceLaws.{AlikeBelow}
use Rattle.bus_canon.proofs.places.first_word.Given as goal

abbrev pub invariant-loop-subaddress : goal.invariant-loop-subaddress
invariant-loop-subaddress l = AlikeBelow (λ r i. get_or (get_or l.ours r []) i 0) (λ r i. get_or (get_or l.theirs r []) i 0) l.subaddress
