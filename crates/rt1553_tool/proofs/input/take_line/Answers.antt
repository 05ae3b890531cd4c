use Rattle.std.proofs.Common.{not, arith}
use Rattle.std.proofs.lemmas.Grind.{common_steps}
use Rattle.rt1553_tool.proofs.InputLaws.{Taken_byte, Taken_feed, Taken_end}
use Rattle.rt1553_tool.proofs.input.take_line.Goals as goal

pub returns-in-Ok-None-clause-ok : goal.returns-in-Ok-None-clause-ok
returns-in-Ok-None-clause-ok g c =
    Taken_end g.row.N _ _ _ _ c.loop-turn._turn (not c.is_empty.result) c.loop-turn.line.items c.requires c.loop-turn.invariant c.in-Ok-None.field-0-is c.in-Ok-None.ensures.ok
    (λ some. grind (arith, common_steps)) (λ none. grind (arith, common_steps))

pub returns-then-byte-eq10-clause-ok : goal.returns-then-byte-eq10-clause-ok
returns-then-byte-eq10-clause-ok g c =
    Taken_feed g.row.N _ _ _ _ c.loop-turn._turn c.in-Ok-Some.byte c.loop-turn.line.items c.loop-turn.invariant c.in-Ok-Some.field-0-is c.in-Ok-Some.ensures.ok c.if-byte-eq10.true

pub loop-turn-preserved : goal.loop-turn-preserved
loop-turn-preserved g c =
    Taken_byte g.row.N _ _ _ _ c.loop-turn._turn c.in-Ok-Some.byte c.loop-turn.line.items c.keep.new.line.items c.loop-turn.invariant c.in-Ok-Some.field-0-is c.in-Ok-Some.ensures.ok c.if-byte-eq10.false c.keep.ensures
