-- The page of the results of scripts: what was tested, and the table of scripts.
use Rattle.std.specs.Prelude.{ℕ, ◌≡◌, Bool, true, false, List, [], ◌++◌, codes, Option, Some, None, option_map}
use Rattle.std.specs.String.{string_bytes}
use Rattle.hex.specs.Hex.{encode_lower}
use Rattle.rt1553_report.specs.declared.head.NamesTable.{NamesTable}
use Rattle.rt1553_report.specs.declared.head.ReportHead.{ReportHead}
use Rattle.report_pages.specs.declared.page.TestedProfile.{TestedProfile}
use Rattle.rt1553_report.specs.declared.result.ScriptOutcome.{ScriptOutcome}
use Rattle.rt1553_report.specs.declared.result.ScriptResult.{ScriptResult}
use Rattle.report_pages.specs.CoveragePage.{AreRowsOf, IsFileRow}
use Rattle.report_pages.specs.Fields.{count_field}
use Rattle.rt1553_report.specs.Pieces.{AddsPiece}
use Rattle.rt1553_report.specs.Results.{outcome_answers, outcome_passes, outcome_verdict}
use Rattle.rt1553_report.specs.Verdict.{result_word}
use Rattle.rt1553_report.specs.Shown.{StandsFor}

-- a digest in a field, on a line of its own
unfoldable pub digest_told : List ℕ → List ℕ → List ℕ
digest_told what digest = codes "<br/>" ++ what ++ codes " <code>" ++ encode_lower digest ++ codes "</code>"

abbrev pub digest_line : List ℕ → Option (List ℕ) → List ℕ
digest_line what None = []
digest_line what (Some digest) = digest_told what digest

-- the row of a file with digests: that of its text, and that of the canonical text of a profile
abbrev pub IsDigestRow : List ℕ → List ℕ → Option (List ℕ) → Option (List ℕ) → List ℕ → Type 0
IsDigestRow what file own canonical row =
    (written : List ℕ) × StandsFor file written
    × (row ≡ codes "<tr><th scope=\"row\">" ++ what ++ codes "</th><td>" ++ written ++ digest_line (codes "SHA-256") own
    ++ digest_line (codes "SHA-256 of its canonical text") canonical ++ codes "</td></tr>\n")

abbrev pub IsProfileRow : TestedProfile → List ℕ → Type 0
IsProfileRow p row = IsDigestRow (codes "profile") p.name.now p.digests.profile p.digests.canonical row

-- no row where there is no date
abbrev pub IsDateRow : Option (List ℕ) → List ℕ → Type 0
IsDateRow None row = row ≡ []
IsDateRow (Some date) row = IsFileRow (codes "date") date row

-- no row where there is no table of names
abbrev pub IsNamesRow : Option NamesTable → List ℕ → Type 0
IsNamesRow None row = row ≡ []
IsNamesRow (Some table) row = IsDigestRow (codes "names") table.file.now (Some table.digest) None row

-- what the scripts share
abbrev pub AreHeadRows : ReportHead → List ℕ → Type 0
AreHeadRows head rows =
    (program toolchain canonical date names : List ℕ) × IsFileRow (codes "rt1553-tool") head.program.now program
    × IsFileRow (codes "toolchain") head.toolchain.now toolchain × IsFileRow (codes "canonical text") head.canonical.now canonical
    × IsDateRow (option_map (λ d. d.now) head.date) date × IsNamesRow head.names names
    × (rows ≡ program ++ toolchain ++ canonical ++ date ++ names)

-- how the field of a verdict begins: one of a script that does not pass is marked
abbrev pub verdict_begin : Bool → List ℕ
verdict_begin true = codes "<td>"
verdict_begin false = codes "<td class=\"differs\">"

-- what came of a script, in words
unfoldable pub verdict_field : ScriptOutcome → List ℕ
verdict_field outcome = verdict_begin (outcome_passes outcome) ++ result_word (outcome_verdict outcome) ++ codes "</td>"

-- how many answers it states, or exchanges the test of a unit has: nothing for one that was not played
abbrev pub answers_field : Option ℕ → List ℕ
answers_field (Some answers) = count_field answers
answers_field None = codes "<td></td>"

-- a clause in a field, on a line of its own
abbrev pub IsClauseLine : List ℕ → List ℕ → Type 0
IsClauseLine clause line = (written : List ℕ) × StandsFor clause written × (line ≡ written ++ codes "<br/>")

-- the field of a digest, empty for none
unfoldable pub digest_cell : List ℕ → List ℕ
digest_cell digest = codes "<td><code>" ++ encode_lower digest ++ codes "</code></td>"

abbrev pub digest_field : Option (List ℕ) → List ℕ
digest_field None = codes "<td></td>"
digest_field (Some digest) = digest_cell digest

-- the field of the name of a profile, empty for none
abbrev pub IsProfileField : Option (List ℕ) → List ℕ → Type 0
IsProfileField None field = field ≡ codes "<td></td>"
IsProfileField (Some profile) field = (written : List ℕ) × StandsFor profile written × (field ≡ codes "<td>" ++ written ++ codes "</td>")

-- the row of a script: its name, its profile, what came of it, its answers, its clauses and its digest
unfoldable pub IsScriptRow : ScriptResult → List ℕ → Type 0
IsScriptRow of row =
    (file profile clauses : List ℕ) × StandsFor (string_bytes of.file) file × IsProfileField (option_map string_bytes of.profile) profile
    × AreRowsOf (λ c. IsClauseLine c.items) of.clauses.items clauses
    × (row ≡ codes "<tr><th scope=\"row\">" ++ file ++ codes "</th>" ++ profile ++ verdict_field of.outcome ++ answers_field (outcome_answers of.outcome)
    ++ codes "<td>" ++ clauses ++ codes "</td>" ++ digest_field of.digests.script ++ codes "</tr>\n")

unfoldable pub scripts_head : List ℕ
scripts_head = codes "<h2>Files</h2>\n<table>\n<thead><tr><th scope=\"col\">file</th><th scope=\"col\">profile</th><th scope=\"col\">result</th><th scope=\"col\">answers</th><th scope=\"col\">clauses</th><th scope=\"col\">SHA-256</th></tr></thead>\n<tbody>\n"

-- The page: behind its front come what was tested, with rows for what the scripts share, for profiles and other things; then a row for each
-- script, passed ones too, in their order; and what else there is to tell.
abbrev pub IsResultsPage : ReportHead → List ScriptResult → List ℕ → Type 0
IsResultsPage head results page =
    (front rows profiles sums scripts failures : List ℕ) × (tested : List TestedProfile) × AreHeadRows head rows × AreRowsOf IsProfileRow tested profiles
    × AreRowsOf IsScriptRow results scripts
    × AddsPiece front page (codes "<h2>What was tested</h2>\n<table>\n" ++ rows ++ profiles ++ sums ++ scripts_head ++ scripts ++ codes "</tbody>\n</table>\n" ++ failures ++ codes "</body></html>\n")
