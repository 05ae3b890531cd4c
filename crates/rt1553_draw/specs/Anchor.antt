-- Where on a page the event of a line is drawn.
use Rattle.std.specs.Prelude.{ℕ, List, ◌++◌, codes}
use Rattle.std.specs.Fmt.{decimal}

-- the name of the place, to which a link may lead
abbrev pub anchor : ℕ → List ℕ
anchor line = codes "line-" ++ decimal line

-- what gives an element that name
abbrev pub anchored : ℕ → List ℕ
anchored line = codes " id=\"" ++ anchor line ++ codes "\""
