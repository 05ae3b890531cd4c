use Rattle.std.proofs.Common.{◌≡◌, ◌+◌, ◌<◌, ◌^◌, length, option_map}
use Rattle.std.specs.Option.{option_map_or}
use Rattle.bus_profile.specs.RangesOf.{ranges_of}
use Rattle.bus_profile.proofs.RangesRest.{finish, items_left}
use Rattle.bus_profile.proofs.ranges.mask_of_items.Given as goal

abbrev pub invariant-loop-rest : goal.invariant-loop-rest
invariant-loop-rest l = (l.mask < 2 ^ 32) × (finish l.low l.high l.within l.mask (items_left (option_map (λ t. t.now) l.rest)) ≡ ranges_of l.low l.high l.text)

abbrev pub decreases-loop-rest : goal.decreases-loop-rest
decreases-loop-rest l = option_map_or (λ t. length t.now + 1) l.rest 0
