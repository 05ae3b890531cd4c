use Rattle.std.proofs.Common.{IfSome}
use Rattle.rt1553_tool.proofs.ServedLaws.{Serving}
use Rattle.rt1553_tool.proofs.session.serve.Given as goal

abbrev pub invariant-loop-turn : goal.invariant-loop-turn
invariant-loop-turn g l = IfSome (g.S.Source.left l.fn.source) (λ xs. Serving g.L.Legality.is_legal g.W.Sink.written (l.fn.terminal, l.fn.sink) (l.terminal, l.sink) l._turn xs (g.S.Source.left l.source))
