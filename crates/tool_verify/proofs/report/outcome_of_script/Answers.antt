use Rattle.std.proofs.Common.{◌==◌, length, Some, refl}
use Rattle.rt1553_report.specs.Verdict.{verdict_of}
use Rattle.tool_verify.proofs.report.outcome_of_script.Goals as goal

-- as many answers differ by the lines of the file
pub returns : goal.returns
returns g c whole = (
  verdict_of (length c.in_ok-it.it.wrong.items == 0) c.in_ok-it.it.unjudged,
  c.in_ok-it.it.answers,
  c.in_ok-it.it.silences,
  λ j. Some (verdict_of (c.in_ok-wrong_in_file.ensures j == 0) c.in_ok-it.it.unjudged),
  refl,
  c.in_ok-it.ensures whole,
)
