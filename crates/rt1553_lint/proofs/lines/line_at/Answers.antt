use Rattle.std.proofs.Common.{arith}
use Rattle.rt1553_lint.proofs.Columns.{line_small}
use Rattle.rt1553_lint.proofs.lines.line_at.Goals as goal

pub loop-at-init : goal.loop-at-init
loop-at-init c = let small = line_small c.args.text.now c.args.from (omega arith) in record { counted = c.requires.line; small = omega (arith, c.requires.line, small) }
