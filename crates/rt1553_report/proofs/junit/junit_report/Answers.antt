use Rattle.std.proofs.lemmas.Result.{IfOk-weaker}
use Rattle.rt1553_report.proofs.junit.junit_report.Goals as goal

pub returns : goal.returns
returns c = IfOk-weaker c.junit_suite.result _ _ (λ text is. (_, is)) c.junit_suite.ensures
