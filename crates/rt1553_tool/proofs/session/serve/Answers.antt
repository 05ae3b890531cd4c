use Rattle.rt1553_tool.proofs.ServedLaws.{Serving_start, Serving_more, Serving_end}
use Rattle.rt1553_tool.proofs.session.serve.Goals as goal

pub loop-turn-init : goal.loop-turn-init
loop-turn-init g c = Serving_start g.L.Legality.is_legal g.W.Sink.written (g.S.Source.left c.args.source.now) (c.args.terminal.now, c.args.sink.now)

pub loop-turn-preserved : goal.loop-turn-preserved
loop-turn-preserved g c =
    Serving_more g.L.Legality.is_legal g.W.Sink.written _ _ _ _ _ _ c.loop-turn._turn c.in-Ok-true.field-0 c.in-Ok-true.field-0-test c.loop-turn.invariant c.in-Ok-true.ensures.ok

pub returns-in-Ok-false-clause-ok : goal.returns-in-Ok-false-clause-ok
returns-in-Ok-false-clause-ok g c =
    Serving_end g.L.Legality.is_legal g.W.Sink.written _ _ _ _ _ _ c.loop-turn._turn c.in-Ok-false.field-0 c.in-Ok-false.field-0-test c.loop-turn.invariant c.in-Ok-false.ensures.ok
