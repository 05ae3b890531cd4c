-- A script that was tried.
use Rattle.std.specs.Prelude.{IfOk}
use Rattle.tool_files.specs.declared.files.LoadedProfile.{LoadedProfile}
use Rattle.tool_files.specs.declared.loaded.LoadedScript.{LoadedScript}
use Rattle.tool_verify.specs.declared.report.TriedFile.{TriedFile}
use Rattle.tool_verify.specs.declared.verify.Played.{Played}
use Rattle.tool_verify.specs.Digests.{HasDigestsOf, HasScriptDigest}
use Rattle.tool_verify.specs.Passing.{IsPlayedTo, HasVerdict}

-- The digest beside what came of a script is of its file, and those of a profile are of the profile to whose terminal it was played.
pub record IsTried (played : Played) (script : LoadedScript) (tried : TriedFile) : Type 0 where
  pub digest : HasScriptDigest script tried.digests.script
  pub outcome : IfOk tried.outcome (λ outcome. (profile : LoadedProfile) × IsPlayedTo played.to profile × HasDigestsOf profile tried.digests
      × HasVerdict played.kind profile.normal script.text.items outcome)
