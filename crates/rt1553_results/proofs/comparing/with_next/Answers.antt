use Rattle.std.proofs.Common.{arith}
use Rattle.rt1553_results.proofs.CompareLaws.{counted_next}
use Rattle.rt1553_results.proofs.comparing.with_next.Goals as goal

pub returns-then-next-numbers : goal.returns-then-next-numbers
returns-then-next-numbers c = counted_next c.args.numbers.first c.args.numbers.count c.args.next (omega arith)
