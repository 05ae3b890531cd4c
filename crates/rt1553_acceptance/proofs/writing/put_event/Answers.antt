use Rattle.std.proofs.Common.{◌∷◌, ◌++◌, ap, ◌∙◌}
use Rattle.std.proofs.lemmas.Result.{on_ok_weaker}
use Rattle.script_lines.specs.EventLine.{event_text}
use Rattle.bus_script.proofs.PlayLaws.{Played-one}
use Rattle.rt1553_acceptance.specs.Text.{answer_stated}
use Rattle.rt1553_acceptance.proofs.writing.put_event.Goals as goal

pub returns-clause-wrote : goal.returns-clause-wrote
returns-clause-wrote g c = on_ok_weaker c.write_all.result
    (λ wrote. Played-one _ _ c.args.event _ c.step.follows.holds-at-none.0
    (λ P h s. c.as_bytes.ensures.value ∙ c.as_str.ensures.value ∙ c.stated_lines-lines.ensures ∙ ap (λ o. event_text c.args.event ++ 10 ∷ answer_stated o) (c.step.ensures.answer P h s)) wrote)
    c.write_all.ensures.ok
