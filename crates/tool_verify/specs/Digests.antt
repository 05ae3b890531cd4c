-- Digests of what a script was played with.
use Rattle.std.specs.Prelude.{ℕ, ◌≡◌, List, Option, Some, None}
use Rattle.std.specs.Borrow.{Bor}
use Rattle.bus_canon.specs.Canon.{Text}
use Rattle.sha2.specs.Sha256.{sha256}
use Rattle.rt1553_report.specs.declared.head.FileDigests.{FileDigests}
use Rattle.rt1553_report.specs.declared.head.NamesTable.{NamesTable}
use Rattle.tool_files.specs.declared.files.LoadedProfile.{LoadedProfile}
use Rattle.tool_files.specs.declared.loaded.LoadedScript.{LoadedScript}
use Rattle.tool_files.specs.Loaded.{IsScriptOf}
use Rattle.tool_names.specs.declared.names.LoadedNames.{LoadedNames}

-- they are of the profile's file, and of its canonical text
abbrev pub HasDigestsOf : LoadedProfile → FileDigests → Type 0
HasDigestsOf profile digests =
    (digests.profile ≡ Some profile.digest) × ((canonical : List ℕ) × Text profile.normal canonical × (digests.canonical ≡ Some (sha256 canonical)))

-- it is of the text of the file of which this is the script
abbrev pub HasScriptDigest : LoadedScript → Option (List ℕ) → Type 0
HasScriptDigest script digest = (expand_for : Option ℕ) (text : List ℕ) → IsScriptOf expand_for text script → digest ≡ Some (sha256 text)

-- the table of names that is told is the one that was read, by the name that was given
abbrev pub HasTableOf : Option (Bor (List ℕ)) → Option LoadedNames → Option NamesTable → Type 0
HasTableOf (Some file) (Some loaded) told = told ≡ Some (record { file = file; digest = loaded.digest })
HasTableOf _ _ told = told ≡ None
