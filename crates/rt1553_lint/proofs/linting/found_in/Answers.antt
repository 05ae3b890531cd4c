use Rattle.std.proofs.Common.{rules}
use Rattle.rt1553_lint.proofs.Told.{finds_faults, finds_warnings}
use Rattle.rt1553_lint.proofs.linting.found_in.Goals as goal

pub returns-then-not-is_empty : goal.returns-then-not-is_empty
returns-then-not-is_empty c = finds_faults _ _ _ c.is_empty.result c.in_ok-findings.ensures (search rules) (search rules)

pub returns : goal.returns
returns c = finds_warnings _ _ c.in_ok-findings.findings.items _ c.is_empty.result c.in-Ok.profile c.in_ok-findings.ensures (search rules) (search rules) c.in-Ok.ensures.accepted c.in_ok-warnings.ensures
