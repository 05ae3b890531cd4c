use Rattle.rt1553_tool.proofs.AnswerLaws.{TellsLine_one}
use Rattle.rt1553_tool.proofs.word_answers.answer_line.Goals as goal

pub returns-in-Ok-clause-ok : goal.returns-in-Ok-clause-ok
returns-in-Ok-clause-ok g c = TellsLine_one _ _ _ _ _ _ c.in-Ok-true.field-0 c.in-Ok.refused c.in-Ok-true.field-0-test c.in-Ok-true.ensures.ok c.as_slice.ensures.value c.in-Ok.ensures.ok
