use Rattle.std.proofs.Common.{get_or}
use Rattle.bus_word.specs.Mask.{has_bit}
use Rattle.bus_canon.proofs.PlaceLaws.{AlikeBelow}
use Rattle.bus_canon.proofs.places.first_count.Given as goal

abbrev pub invariant-loop-subaddress : goal.invariant-loop-subaddress
invariant-loop-subaddress l = AlikeBelow (λ r i. has_bit (get_or l.ours r 0) i) (λ r i. has_bit (get_or l.theirs r 0) i) l.subaddress
