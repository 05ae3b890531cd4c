-- Which columns are marked with what a script states.
use Rattle.std.specs.Prelude.{⊤, ◌==◌, List, [], Option, Some, None, string_bytes}
use Rattle.std.specs.List.{find}
use Rattle.drawing_boxes.specs.Escaped.{Escapes}
use Rattle.rt1553_draw.specs.declared.column.Column.{Column}
use Rattle.rt1553_draw.specs.declared.expected.Expected.{Expected}
use Rattle.rt1553_draw.specs.declared.expected.StatedAnswer.{StatedAnswer}

-- what is drawn for an answer that was stated: its text; nothing for none
abbrev pub IsExpectedOf : Option StatedAnswer → Option Expected → Type 0
IsExpectedOf None None = ⊤
IsExpectedOf None (Some expected) = ⊥
IsExpectedOf (Some answer) None = ⊥
IsExpectedOf (Some answer) (Some expected) = Escapes (string_bytes answer.text) [] (string_bytes expected.whole)

-- a column is marked with the first of these answers that is stated for its line, if there is one
abbrev pub IsMarkedBy : List StatedAnswer → Column → Type 0
IsMarkedBy stated column = IsExpectedOf (find (λ answer. answer.line == column.of.line) stated) column.expected
