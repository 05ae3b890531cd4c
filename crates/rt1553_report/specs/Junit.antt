-- Results as JUnit reports them: what the scripts of a report share, and digests.
use Rattle.std.specs.Prelude.{ℕ, ◌≡◌, List, [], ◌++◌, codes, Option, Some, None, option_map}
use Rattle.hex.specs.Hex.{encode_lower}
use Rattle.rt1553_report.specs.declared.head.FileDigests.{FileDigests}
use Rattle.rt1553_report.specs.declared.head.NamesTable.{NamesTable}
use Rattle.rt1553_report.specs.declared.head.ReportHead.{ReportHead}
use Rattle.rt1553_report.specs.Shown.{StandsFor}

-- a property
abbrev pub IsProperty : List ℕ → List ℕ → List ℕ → Type 0
IsProperty name value property = (written : List ℕ) × StandsFor value written × (property ≡ codes "<property name=\"" ++ name ++ codes "\" value=\"" ++ written ++ codes "\"/>\n")

-- that of a digest, in hexadecimal digits
unfoldable pub digest_property : List ℕ → List ℕ → List ℕ
digest_property name digest = codes "<property name=\"" ++ name ++ codes "\" value=\"" ++ encode_lower digest ++ codes "\"/>\n"

abbrev pub some_digest : List ℕ → Option (List ℕ) → List ℕ
some_digest name None = []
some_digest name (Some digest) = digest_property name digest

-- the digests of a script, of its profile, and of the canonical text of this
unfoldable pub digest_properties : FileDigests → List ℕ
digest_properties d = some_digest (codes "sha256") d.script ++ some_digest (codes "profile_sha256") d.profile ++ some_digest (codes "canonical_sha256") d.canonical

-- the table of names
abbrev pub AreNamesProperties : Option NamesTable → List ℕ → Type 0
AreNamesProperties None properties = properties ≡ []
AreNamesProperties (Some table) properties =
    (file : List ℕ) × IsProperty (codes "names") table.file.now file × (properties ≡ file ++ digest_property (codes "names_sha256") table.digest)

-- what the test cases share, and behind that other properties
abbrev pub AreSuiteProperties : ReportHead → List ℕ → List ℕ → Type 0
AreSuiteProperties head more properties =
    (program toolchain canonical names : List ℕ) × IsProperty (codes "program") head.program.now program
    × IsProperty (codes "toolchain") head.toolchain.now toolchain × IsProperty (codes "canonical") head.canonical.now canonical
    × AreNamesProperties head.names names
    × (properties ≡ codes "<properties>\n" ++ program ++ toolchain ++ canonical ++ names ++ more ++ codes "</properties>\n")

-- the attribute of a date
abbrev pub IsTimestamp : Option (List ℕ) → List ℕ → Type 0
IsTimestamp None stamp = stamp ≡ []
IsTimestamp (Some date) stamp = (written : List ℕ) × StandsFor date written × (stamp ≡ codes " timestamp=\"" ++ written ++ codes "\"")

-- A report of one suite: it has the date, what its test cases share, these other properties, and then these test cases.
abbrev pub IsJunitSuite : ReportHead → List ℕ → List ℕ → List ℕ → Type 0
IsJunitSuite head more cases text =
    (totals stamp properties : List ℕ) × IsTimestamp (option_map (λ d. d.now) head.date) stamp × AreSuiteProperties head more properties
    × (text ≡ codes "<?xml version=\"1.0\" encoding=\"UTF-8\"?>\n<testsuites" ++ totals ++ codes ">\n<testsuite name=\"rt1553-tool " ++ head.command.now ++ codes "\"" ++ totals ++ stamp
    ++ codes ">\n" ++ properties ++ cases ++ codes "</testsuite>\n</testsuites>\n")

-- the report of results, which has no other properties
abbrev pub IsJunitReport : ReportHead → List ℕ → Type 0
IsJunitReport head text = (cases : List ℕ) × IsJunitSuite head [] cases text
