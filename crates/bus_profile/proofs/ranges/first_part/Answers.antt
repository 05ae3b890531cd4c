use Rattle.std.proofs.Common.{arith}
use Rattle.bus_profile.proofs.Parts.{split_here, split_nowhere}
use Rattle.bus_profile.proofs.ranges.first_part.Goals as goal

pub returns-then-byte-at-clause-parts : goal.returns-then-byte-at-clause-parts
returns-then-byte-at-clause-parts c = split_here c.args.at c.args.text.now c.loop-index.index (omega arith) c.loop-index.invariant c.if-byte-at.true

pub returns-clause-parts : goal.returns-clause-parts
returns-clause-parts c = split_nowhere c.args.at c.args.text.now (λ k below. c.loop-index.invariant k (omega arith))
