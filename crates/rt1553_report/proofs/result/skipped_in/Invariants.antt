use Rattle.std.proofs.Common.{◌≡◌, ◌+◌, ◌≤◌, drop, filter, length}
use Rattle.rt1553_report.specs.Results.{outcome_is_unjudged}
use Rattle.rt1553_report.proofs.result.skipped_in.Given as goal

abbrev pub invariant-loop-of : goal.invariant-loop-of
invariant-loop-of l = record {
  few : l.count ≤ l.of-index;
  counted : l.count + length (filter (λ r. outcome_is_unjudged r.outcome) (drop l.of-index l.results)) ≡ length (filter (λ r. outcome_is_unjudged r.outcome) l.results);
}
