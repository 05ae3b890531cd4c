-- What the comments at the front of a script name.
use Rattle.std.specs.Prelude.{ℕ, List, [], ◌∷◌, Option, Some, None, is_some, if◌then◌else◌}
use Rattle.line_format.specs.Front.{after}

-- the first of two that is there
abbrev pub or_first : {A : Type 0} → Option A → Option A → Option A
or_first (Some x) o = Some x
or_first None o = o

-- what follows the key in the first line that begins with it, of the lines up to the first that is no comment
unfoldable pub named : List ℕ → List (List ℕ) → Option (List ℕ)
named key [] = None
named key (line ∷ lines) = or_first (after key line) (if is_some (after (35 ∷ []) line) then named key lines else None)
