-- Texts from outside, as they stand in a page.
use Rattle.std.specs.Prelude.{ℕ, List, []}
use Rattle.rt1553_files.specs.Printable.{PrintsOnOneLine, Shows}
use Rattle.drawing_boxes.specs.Escaped.{Escapes}

-- what stands in a page for some bytes: they are shown on one line, and each character of that is escaped
abbrev pub StandsFor : List ℕ → List ℕ → Type 0
StandsFor bytes written = (shown : List ℕ) × Shows bytes shown × PrintsOnOneLine shown × Escapes shown [] written
