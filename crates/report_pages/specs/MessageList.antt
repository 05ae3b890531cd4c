-- The list of the messages of a run, above their drawings.
use Rattle.std.specs.Prelude.{ℕ, ◌≡◌, Bool, true, false, List, ◌++◌, codes, String, string_bytes}
use Rattle.std.specs.Global.{Global}
use Rattle.std.specs.Fmt.{decimal}
use Rattle.terminal_messages.specs.declared.kept.KeptMessage.{KeptMessage}
use Rattle.message_rows.specs.Filter.{is_faulty}
use Rattle.rt1553_draw.specs.Anchor.{anchor}
use Rattle.rt1553_report.specs.Shown.{StandsFor}
use Rattle.report_pages.specs.CoveragePage.{AreRowsOf}
use Rattle.report_pages.specs.Fields.{count_field}

-- how a row begins: that of a message that was not done, or not answered, is marked
abbrev pub list_begin : Bool → List ℕ
list_begin true = codes "<tr class=\"differs\">"
list_begin false = codes "<tr>"

-- the number of a message, which leads to the anchor of this line
unfoldable pub link_field : ℕ → ℕ → List ℕ
link_field number line = codes "<td class=\"count\"><a href=\"#" ++ anchor line ++ codes "\">" ++ decimal number ++ codes "</a></td>"

-- a cell: its text, escaped
abbrev pub IsCell : String Global → List ℕ → Type 0
IsCell cell field = (written : List ℕ) × StandsFor (string_bytes cell) written × (field ≡ codes "<td>" ++ written ++ codes "</td>")

-- the row of a message: a link to the line of its command, that line, and its cells
unfoldable pub IsListRow : KeptMessage → List (String Global) → List ℕ → Type 0
IsListRow m cells text =
    (fields : List ℕ) × AreRowsOf IsCell cells fields
    × (text ≡ list_begin (is_faulty m.state.«end» m.state.unsent) ++ link_field m.number m.place ++ count_field m.place ++ fields ++ codes "</tr>\n")
