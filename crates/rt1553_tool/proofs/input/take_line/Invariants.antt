use Rattle.std.proofs.Common.{IfSome}
use Rattle.rt1553_tool.proofs.InputLaws.{Taken}
use Rattle.rt1553_tool.proofs.input.take_line.Given as goal

abbrev pub invariant-loop-turn : goal.invariant-loop-turn
invariant-loop-turn g l = IfSome (g.S.Source.left l.initial.source) (λ xs. Taken g.row.N xs l._turn l.line.items (g.S.Source.left l.source))
