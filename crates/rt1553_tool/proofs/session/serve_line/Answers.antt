use Rattle.rt1553_tool.proofs.ServedLaws.{ServesLine_one}
use Rattle.rt1553_tool.proofs.session.serve_line.Goals as goal

pub returns-in-Ok-clause-ok : goal.returns-in-Ok-clause-ok
returns-in-Ok-clause-ok g c = ServesLine_one _ _ _ _ _ _ c.in-Ok-true.field-0 c.in-Ok-true.field-0-test c.in-Ok-true.ensures.ok c.as_slice.ensures.value c.in-Ok.ensures.ok
