use Rattle.std.proofs.Common.{arith}
use Rattle.bus_legal.proofs.TopBit.{largest-leading}
use Rattle.bus_legal.proofs.masks.largest_count.Goals as goal

pub returns-clause-count : goal.returns-clause-count
returns-clause-count c = largest-leading c.args.mask (omega (arith, c.ranges.mask.fits))
