use Rattle.std.proofs.Common.{arith}
use Rattle.terminal_exchanges.proofs.CountLaws.{least_of_none, least_of_some}
use Rattle.terminal_exchanges.proofs.shortest.least_count.Goals as goal

pub returns-then-mask-eq0-clause-count : goal.returns-then-mask-eq0-clause-count
returns-then-mask-eq0-clause-count c = least_of_none c.args.mask c.if-mask-eq0.true

pub returns-else-mask-eq0-clause-count : goal.returns-else-mask-eq0-clause-count
returns-else-mask-eq0-clause-count c = least_of_some c.args.mask (omega (arith, c.ranges.mask.fits)) c.if-mask-eq0.false
