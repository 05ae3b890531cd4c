use Rattle.std.proofs.Common.{◌≡◌, map, take}
use Rattle.rt1553_report.specs.Results.{outcome_verdict}
use Rattle.report_pages.proofs.page.tried_of.Given as goal

abbrev pub invariant-loop-of : goal.invariant-loop-of
invariant-loop-of l = map (λ t. t.verdict) l.tried.items ≡ map (λ r. outcome_verdict r.outcome) (take l.of-index l.results)
