-- The lines of a text from which the lines of its script come.
use Rattle.std.specs.Prelude.{ℕ, List, map}
use Rattle.script_lines.specs.Text.{lines_of}
use Rattle.rt1553_expand.specs.declared.script_for.ScriptFor.{ScriptFor}
use Rattle.rt1553_expand.specs.Expansion.{script_lines}

-- for each line of the script of a text, the number of the line of the text that it stands for
abbrev pub sources_in : ScriptFor → List ℕ → List ℕ
sources_in own text = map (λ l. l.source) (script_lines own (lines_of text))
