use Rattle.std.proofs.Common.{arith, ◌≡◌, ◌+◌}
use Rattle.bus_word.specs.Word.{bit_of}
use Rattle.rt1553_tool.proofs.AnswerLaws.{Told_start, Told_more, Told_end, bit_small}
use Rattle.rt1553_tool.proofs.word_answers.answer_words.Goals as goal

pub loop-turn-init : goal.loop-turn-init
loop-turn-init g c = record { few = omega arith; told = Told_start (g.S.Source.left c.args.source.now) (g.W.Sink.written c.args.sink.now) }

pub loop-turn-preserved : goal.loop-turn-preserved
loop-turn-preserved g c =
    let i = c.loop-turn.invariant in
    let few = i.few in
    let counted : c.counted-refused.result ≡ c.loop-turn.refused + bit_of c.in-Ok-Some.is_refused_line = c.counted-refused.ensures in
    let small = bit_small c.in-Ok-Some.is_refused_line in
    record {
      few = omega (arith, few, counted, small);
      told = Told_more _ _ _ _ _ _ c.loop-turn.refused c.counted-refused.result c.loop-turn._turn c.in-Ok-Some.field-0 c.in-Ok-Some.is_refused_line c.in-Ok-Some.field-0-is i.told c.in-Ok-Some.ensures.ok counted;
    }

pub returns-in-Ok-None-clause-ok : goal.returns-in-Ok-None-clause-ok
returns-in-Ok-None-clause-ok g c = Told_end _ _ _ _ _ _ c.loop-turn.refused c.loop-turn._turn c.in-Ok-None.field-0 c.in-Ok-None.field-0-is c.loop-turn.invariant.told c.in-Ok-None.ensures.ok
