use Rattle.std.proofs.Common.{arith, rules}
use Rattle.rt1553_differ.proofs.GroupLaws.{least_bit}
use Rattle.rt1553_differ.proofs.groups.least_count.Goals as goal

pub returns-clause-has : goal.returns-clause-has
returns-clause-has c = least_bit c.args.counts _ (search rules) c.requires (omega (arith, c.ranges.counts.fits))
