-- What was read of a line, as the language of lines tells it.
use Rattle.std.specs.Prelude.{ℕ, List, Option, Some, None}
use Rattle.std.specs.Borrow.{Bor}

-- the bytes of a part
abbrev pub text_in : Option (Bor (List ℕ)) → Option (List ℕ)
text_in None = None
text_in (Some part) = Some part.now
