use Rattle.std.proofs.Common.{arith}
use Rattle.bus_legal.proofs.Bits.{has_bit-or, has_bit-without}
use Rattle.spare_entries.proofs.said.with_bits.Goals as goal

pub returns-then-set : goal.returns-then-set
returns-then-set c = λ i l. rw c.if-set.true (has_bit-or c.args.mask c.args.given i)

pub returns-else-set : goal.returns-else-set
returns-else-set c = λ i l. rw c.if-set.false (has_bit-without c.args.mask c.args.given i (omega (arith, c.ranges.given.fits)) l)
