use Rattle.std.proofs.Common.{arith}
use Rattle.bus_canon.proofs.PlaceLaws.{lowest_bit}
use Rattle.bus_canon.proofs.places.first_bit.Goals as goal

pub returns-else-ours-theirs : goal.returns-else-ours-theirs
returns-else-ours-theirs c = lowest_bit c.args.ours c.args.theirs (omega (arith, c.ranges.ours.fits)) (omega (arith, c.ranges.theirs.fits)) c.if-ours-theirs.false
