-- The page of what recordings show of a terminal.
use Rattle.std.specs.Prelude.{ℕ, ◌-◌, ◌≡◌, ◌==◌, Bool, true, false, if◌then◌else◌, List, [], ◌∷◌, ◌++◌, codes, length, filter, Option, Some, None}
use Rattle.bus_word.specs.declared.cell.Cell.{Cell}
use Rattle.bus_word.specs.Cell.{cell_of}
use Rattle.bus_word.specs.Command.{is_mode, count_of}
use Rattle.message_names.specs.NameRow.{NameRow}
use Rattle.message_names.specs.Names.{name_of}
use Rattle.recording_coverage.specs.declared.outcome.OutcomeCounts.{OutcomeCounts}
use Rattle.recording_coverage.specs.declared.rows.CoveredMessage.{CoveredMessage}
use Rattle.recording_coverage.specs.declared.rows.IllegalMessage.{IllegalMessage}
use Rattle.recording_coverage.specs.Places.{has_come, was_done, word_count_in}
use Rattle.recording_coverage.specs.Texts.{place_told, command_told}
use Rattle.rt1553_report.specs.Pieces.{AddsPiece}
use Rattle.rt1553_report.specs.Shown.{StandsFor}
use Rattle.report_pages.specs.Fields.{count_field, count_row}

-- A row for each thing of a list, in their order, and nothing else.
abbrev pub AreRowsOf : {A : Type 0} → (A → List ℕ → Type 0) → List A → List ℕ → Type 0
AreRowsOf IsRow [] rows = rows ≡ []
AreRowsOf IsRow (x ∷ xs) rows = (row others : List ℕ) × IsRow x row × AreRowsOf IsRow xs others × (rows ≡ row ++ others)

-- a field with a word count, which is empty for a mode code
abbrev pub words_field : ℕ → List ℕ
words_field n = if n == 0 then codes "<td></td>" else count_field n

-- how often a message came to each outcome
unfoldable pub outcome_fields : OutcomeCounts → List ℕ
outcome_fields c = count_field c.done ++ count_field c.blocked ++ count_field c.illegal ++ count_field c.in_error ++ count_field c.superseded ++ count_field c.left_open

-- the field of a name, between quotes; it is empty for none
abbrev pub IsNamed : Option (List ℕ) → List ℕ → Type 0
IsNamed None field = field ≡ codes "<td></td>"
IsNamed (Some name) field = (written : List ℕ) × StandsFor name written × (field ≡ codes "<td>&quot;" ++ written ++ codes "&quot;</td>")

-- the field of the name of the message of a cell; no field where there are no names
abbrev pub IsNameField : Option (List NameRow) → Option Cell → List ℕ → Type 0
IsNameField None cell field = field ≡ []
IsNameField (Some rows) None field = IsNamed None field
IsNameField (Some rows) (Some cell) field = IsNamed (name_of rows cell) field

-- how a row begins: one of a message that never came is marked
abbrev pub row_begin : Bool → List ℕ
row_begin true = codes "<tr><th scope=\"row\">"
row_begin false = codes "<tr class=\"differs\"><th scope=\"row\">"

abbrev pub come_field : Bool → List ℕ
come_field true = codes "<td>yes</td>"
come_field false = codes "<td>never</td>"

-- the row of a legal message: what it is, its words, its name, whether it came, how often with each outcome
unfoldable pub legal_page_row : CoveredMessage → List ℕ → List ℕ
legal_page_row m name = row_begin (has_come m) ++ place_told m.cell ++ codes "</th>" ++ words_field (word_count_in m.cell) ++ name ++ come_field (has_come m) ++ outcome_fields m.counts ++ codes "</tr>\n"

abbrev pub IsLegalRow : Option (List NameRow) → CoveredMessage → List ℕ → Type 0
IsLegalRow names m row = (name : List ℕ) × IsNameField names (Some m.cell) name × (row ≡ legal_page_row m name)

-- the same of an illegal message that came
unfoldable pub illegal_page_row : IllegalMessage → List ℕ → List ℕ
illegal_page_row m name = codes "<tr><th scope=\"row\">" ++ command_told m.command ++ codes "</th>" ++ words_field (if is_mode m.command then 0 else count_of m.command) ++ name ++ outcome_fields m.counts ++ codes "</tr>\n"

abbrev pub IsIllegalRow : Option (List NameRow) → IllegalMessage → List ℕ → Type 0
IsIllegalRow names m row = (name : List ℕ) × IsNameField names (cell_of m.command) name × (row ≡ illegal_page_row m name)

-- a row of the first table: a name of a file, as it was given
abbrev pub IsFileRow : List ℕ → List ℕ → List ℕ → Type 0
IsFileRow what file row = (written : List ℕ) × StandsFor file written × (row ≡ codes "<tr><th scope=\"row\">" ++ what ++ codes "</th><td>" ++ written ++ codes "</td></tr>\n")

-- how many messages came
unfoldable pub sum_rows : List CoveredMessage → List IllegalMessage → List ℕ
sum_rows legal illegal =
    count_row (codes "legal messages") (length legal)
    ++ count_row (codes "legal messages that came") (length (filter has_come legal))
    ++ count_row (codes "legal messages that were done") (length (filter was_done legal))
    ++ count_row (codes "legal messages that never came") (length legal - length (filter has_come legal))
    ++ count_row (codes "illegal messages that came") (length illegal)

-- what the numbers are worth
unfoldable pub worth : List ℕ
worth = codes "<p>Of a message that never came, these recordings show nothing. Whether the unit answered as the profile says is not counted here: rt1553-tool verify --any-subsystem tells it. Where no status word was sent, as after a broadcast, nothing shows whether the unit was busy: the flag of the next status word counts.</p>\n"

-- what was read, and how many messages came
abbrev pub IsReadPart : List ℕ → List (List ℕ) → List CoveredMessage → List IllegalMessage → List ℕ → Type 0
IsReadPart profile recordings legal illegal part =
    (first others : List ℕ) × IsFileRow (codes "profile") profile first × AreRowsOf (IsFileRow (codes "recording")) recordings others
    × (part ≡ codes "<h2>What was read</h2>\n<table>\n" ++ first ++ others ++ sum_rows legal illegal ++ codes "</table>\n" ++ worth)

-- the head of the column of names, where there are names
abbrev pub names_head : Option (List NameRow) → List ℕ
names_head None = []
names_head (Some rows) = codes "<th scope=\"col\">name</th>"

-- the head of a table: its first columns, that of names, the others, and those of outcomes
unfoldable pub table_head : Option (List NameRow) → List ℕ → List ℕ
table_head names others =
    codes "<table>\n<thead><tr><th scope=\"col\">message</th><th scope=\"col\">words</th>" ++ names_head names ++ others
    ++ codes "<th scope=\"col\">done</th><th scope=\"col\">busy</th><th scope=\"col\">illegal</th><th scope=\"col\">in error</th><th scope=\"col\">superseded</th><th scope=\"col\">open</th></tr></thead>\n<tbody>\n"

-- the table of legal messages
abbrev pub IsLegalPart : Option (List NameRow) → List CoveredMessage → List ℕ → Type 0
IsLegalPart names legal part =
    (rows : List ℕ) × AreRowsOf (IsLegalRow names) legal rows
    × (part ≡ codes "<h2>Legal messages</h2>\n" ++ table_head names (codes "<th scope=\"col\">came</th>") ++ rows ++ codes "</tbody>\n</table>\n")

-- the table of illegal messages that came
abbrev pub IsIllegalTable : Option (List NameRow) → List IllegalMessage → List ℕ → Type 0
IsIllegalTable names [] table = table ≡ codes "<p>None.</p>\n"
IsIllegalTable names (m ∷ ms) table = (rows : List ℕ) × AreRowsOf (IsIllegalRow names) (m ∷ ms) rows × (table ≡ table_head names [] ++ rows ++ codes "</tbody>\n</table>\n")

-- The page: behind its front come what was read, each legal message, and each illegal one that came.
abbrev pub IsCoveragePage : List ℕ → List (List ℕ) → Option (List NameRow) → List CoveredMessage → List IllegalMessage → List ℕ → Type 0
IsCoveragePage profile recordings names legal illegal page =
    (front read first second : List ℕ) × IsReadPart profile recordings legal illegal read × IsLegalPart names legal first × IsIllegalTable names illegal second
    × AddsPiece front page (read ++ first ++ codes "<h2>Illegal messages that came</h2>\n" ++ second ++ codes "</body></html>\n")
