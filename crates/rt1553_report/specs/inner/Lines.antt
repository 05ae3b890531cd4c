-- The object of a script in JSON.
use Rattle.std.specs.Prelude.{◌≡◌, option_map}
use Rattle.std.specs.String.{string_bytes}
use Rattle.hex.specs.Hex.{encode_lower}
use Rattle.rt1553_report.specs.declared.head.ReportHead.{ReportHead}
use Rattle.rt1553_report.specs.declared.json.ResultLine.{ResultLine}
use Rattle.rt1553_report.specs.declared.result.ScriptResult.{ScriptResult}
use Rattle.rt1553_report.specs.Results.{outcome_passes, outcome_verdict}
use Rattle.rt1553_report.specs.Verdict.{result_word}

-- it tells the verdict, the digests, and what the scripts share
pub record IsLineOf (head : ReportHead) (of : ScriptResult) (line : ResultLine) : Type 0 where
  pub passes : line.passes ≡ outcome_passes of.outcome
  pub result : line.result.now ≡ result_word (outcome_verdict of.outcome)
  pub sha256 : option_map string_bytes line.sha256 ≡ option_map encode_lower of.digests.script
  pub profile_sha256 : option_map string_bytes line.profile_sha256 ≡ option_map encode_lower of.digests.profile
  pub canonical_sha256 : option_map string_bytes line.canonical_sha256 ≡ option_map encode_lower of.digests.canonical
  pub names : line.names ≡ option_map (λ t. t.file) head.names
  pub names_sha256 : option_map string_bytes line.names_sha256 ≡ option_map encode_lower (option_map (λ t. t.digest) head.names)
  pub program : line.program ≡ head.program
  pub toolchain : line.toolchain ≡ head.toolchain
  pub canonical : line.canonical ≡ head.canonical
  pub date : line.date ≡ head.date
