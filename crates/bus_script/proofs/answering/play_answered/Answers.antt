use Rattle.std.proofs.Common.{ap}
use Rattle.std.proofs.lemmas.Result.{on_ok_weaker, on_err_weaker}
use Rattle.script_lines.specs.Transcript.{answer_text}
use Rattle.bus_script.proofs.PlayLaws.{Played-one, PlayedPart-one}
use Rattle.bus_script.proofs.answering.play_answered.Goals as goal

pub write_answered-requires : goal.write_answered-requires
write_answered-requires g c = c.step.ensures.small

pub returns-clause-ok : goal.returns-clause-ok
returns-clause-ok g c = on_ok_weaker c.write_answered.result
    (λ wrote. Played-one _ _ c.args.event _ c.step.follows.holds-at-none.0 (λ P h s. ap answer_text (c.step.ensures.answer P h s)) wrote) c.write_answered.ensures.ok

pub returns-clause-err : goal.returns-clause-err
returns-clause-err g c = on_err_weaker c.write_answered.result
    (λ wrote. PlayedPart-one _ _ c.args.event _ c.step.follows.holds-at-none.0 (λ P h s. ap answer_text (c.step.ensures.answer P h s)) wrote) c.write_answered.ensures.err
