-- What came of scripts, and how many of them passed.
use Rattle.std.specs.Prelude.{ℕ, Bool, true, false, ◌==◌, Option, Some, None, List, length, filter}
use Rattle.std.specs.String.{string_bytes}
use Rattle.rt1553_report.specs.declared.result.ScriptOutcome.{ScriptOutcome}
use Rattle.rt1553_report.specs.declared.result.ScriptOutcome.TheVariants.{Played, Judged, NotPlayed}
use Rattle.rt1553_report.specs.declared.result.ScriptResult.{ScriptResult}
use Rattle.rt1553_report.specs.declared.result.Totals.{Totals}
use Rattle.rt1553_report.specs.Unit.{unit_passes}
use Rattle.rt1553_report.specs.Verdict.{verdict_of, verdict_passes, verdict_fails, is_unjudged}
use Rattle.rt1553_report.specs.declared.verdict.ScriptVerdict.{ScriptVerdict}

-- the verdict on a script that was played, or on a unit: it fails if something was answered otherwise than stated, or if a result of the
-- unit differs or is missing
abbrev pub outcome_verdict : ScriptOutcome → Option ScriptVerdict
outcome_verdict (Played answers unjudged wrong notes drawing) = Some (verdict_of (length wrong.items == 0) unjudged)
outcome_verdict (Judged unit) = Some (verdict_of (unit_passes unit) None)
outcome_verdict (NotPlayed reason) = None

abbrev pub outcome_passes : ScriptOutcome → Bool
outcome_passes outcome = verdict_passes (outcome_verdict outcome)

abbrev pub outcome_fails : ScriptOutcome → Bool
outcome_fails outcome = verdict_fails (outcome_verdict outcome)

abbrev pub outcome_is_unjudged : ScriptOutcome → Bool
outcome_is_unjudged outcome = is_unjudged (outcome_verdict outcome)

-- it was not played
abbrev pub outcome_is_missing : ScriptOutcome → Bool
outcome_is_missing (Played answers unjudged wrong notes drawing) = false
outcome_is_missing (Judged unit) = false
outcome_is_missing (NotPlayed reason) = true

-- how many answers it states, or exchanges the acceptance test has
abbrev pub outcome_answers : ScriptOutcome → Option ℕ
outcome_answers (Played answers unjudged wrong notes drawing) = Some answers
outcome_answers (Judged unit) = Some unit.exchanges
outcome_answers (NotPlayed reason) = None

-- the verdict on a unit, in a line
abbrev pub outcome_unit : ScriptOutcome → Option (List ℕ)
outcome_unit (Judged unit) = Some (string_bytes unit.text)
outcome_unit _ = None

-- why it was not played
abbrev pub outcome_fault : ScriptOutcome → Option (List ℕ)
outcome_fault (NotPlayed reason) = Some (string_bytes reason)
outcome_fault _ = None

-- how many scripts there are, and of how many of them each of the three is so
abbrev pub totals_of : List ScriptResult → Totals
totals_of results = record {
  tests = length results;
  failures = length (filter (λ r. outcome_fails r.outcome) results);
  errors = length (filter (λ r. outcome_is_missing r.outcome) results);
  skipped = length (filter (λ r. outcome_is_unjudged r.outcome) results);
}
