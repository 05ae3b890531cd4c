-- The last of a list that passes a test.
use Rattle.std.specs.Prelude.{Bool, List, [], ◌∷◌, Option, Some, None, if◌then◌else◌}

-- what the rest of a list gives, or where that is none, what its first element gives
abbrev pub or_last : {X : Type 0} → Option X → Option X → Option X
or_last None o = o
or_last (Some x) o = Some x

-- the last element that passes the test, or none
abbrev pub last_of : {X : Type 0} → (X → Bool) → List X → Option X
last_of p [] = None
last_of p (x ∷ xs) = or_last (last_of p xs) (if p x then Some x else None)
