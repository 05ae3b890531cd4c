use Rattle.tool_profiles.proofs.StatusLaws.{of-loaded}
use Rattle.tool_profiles.proofs.differ.differ_profiles.Goals as goal

pub returns-clause-same : goal.returns-clause-same
returns-clause-same g c = of-loaded c.put_pair.result c.in_ok-p.p c.in_ok-q.q c.in_ok-p.ensures c.in_ok-q.ensures c.put_pair.ensures.same
