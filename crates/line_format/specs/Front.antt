-- What comes after some bytes at the front of a text.
use Rattle.std.specs.Prelude.{ℕ, ◌==◌, if◌then◌else◌, List, [], ◌∷◌, Option, Some, None}

infixl 10 ◌>>=◌
-- goes on with what was found, if anything was found
abbrev pub ◌>>=◌ : {A B : Type 0} → Option A → (A → Option B) → Option B
None >>= f = None
(Some x) >>= f = f x

-- the bytes after these
abbrev pub after : List ℕ → List ℕ → Option (List ℕ)
after [] bytes = Some bytes
after (c ∷ cs) [] = None
after (c ∷ cs) (b ∷ bs) = if b == c then after cs bs else None
