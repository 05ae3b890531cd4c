use Rattle.std.proofs.Common.{arith}
use Rattle.bus_legal.proofs.Bits.{has_bit-and}
use Rattle.spare_entries.proofs.Bits.{cleared}
use Rattle.spare_entries.proofs.said.changed.Goals as goal

pub returns-then-set : goal.returns-then-set
returns-then-set c = λ i l. rw c.if-set.true (cleared c.args.given c.args.mask i (omega (arith, c.ranges.mask.fits)) l)

pub returns-else-set : goal.returns-else-set
returns-else-set c = λ i l. rw c.if-set.false (has_bit-and c.args.given c.args.mask i)
