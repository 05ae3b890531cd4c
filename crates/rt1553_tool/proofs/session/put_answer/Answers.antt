use Rattle.std.proofs.Common.{◌∙◌, sym, subst}
use Rattle.std.proofs.lemmas.Result.{on_ok_weaker}
use Rattle.rt1553_tool.specs.Session.{live_meaning, AnswersLine}
use Rattle.rt1553_tool.proofs.ServedLaws.{Served_line}
use Rattle.rt1553_tool.proofs.session.put_answer.Goals as goal

pub returns-clause-ok : goal.returns-clause-ok
returns-clause-ok g c = on_ok_weaker c.hand_on.result
    (λ kept. Served_line _ _ _ _ _ _ c.args.line.now c.as_bytes.result.now c.play_live_line-answer.ensures.stands
    (λ P h s. subst (AnswersLine P h (live_meaning c.args.line.now)) (sym (c.as_bytes.ensures.value ∙ c.as_str.ensures.value)) (c.play_live_line-answer.ensures.answer P h s)) c.in_default.ensures.ok c.in_default-put.ensures.ok kept)
    c.hand_on.ensures.ok
