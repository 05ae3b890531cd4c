-- What is reported of a script that was tried.
use Rattle.std.proofs.Common.{IfOk}
use Rattle.std.proofs.lemmas.Result.{IfOk-weaker}
use Rattle.tool_files.specs.declared.files.LoadedProfile.{LoadedProfile}
use Rattle.tool_files.specs.declared.loaded.LoadedScript.{LoadedScript}
use Rattle.tool_verify.specs.declared.report.TriedFile.{TriedFile}
use Rattle.tool_verify.specs.declared.verify.Played.{Played}
use Rattle.tool_verify.specs.Digests.{HasDigestsOf, HasScriptDigest}
use Rattle.tool_verify.specs.Passing.{IsPlayedTo, HasVerdict}
use Rattle.tool_verify.specs.inner.Tried.{IsTried}

-- what was played to the terminal of a profile
pub tried_with : (played : Played) (script : LoadedScript) (tried : TriedFile) (profile : LoadedProfile) → HasScriptDigest script tried.digests.script
    → IsPlayedTo played.to profile → HasDigestsOf profile tried.digests
    → IfOk tried.outcome (λ outcome. HasVerdict played.kind profile.normal script.text.items outcome) → IsTried played script tried
tried_with played script tried profile digest to digests says = record {
  digest = digest;
  outcome = IfOk-weaker tried.outcome (λ outcome. HasVerdict played.kind profile.normal script.text.items outcome) _ (λ outcome said. (profile, to, digests, said)) says;
}
