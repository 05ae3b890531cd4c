use Rattle.std.proofs.lemmas.Result.{IfOk-weaker}
use Rattle.bus_reports.proofs.junit.check_junit.Goals as goal

pub returns : goal.returns
returns c = IfOk-weaker c.junit_suite.result _ _ (λ text is. (_, _, is)) c.junit_suite.ensures
