-- How the parts of a line are found.
use Rattle.std.specs.Prelude.{ℕ, suc, ◌==◌, if◌then◌else◌, List, [], ◌∷◌, map}
use Rattle.std.specs.Borrow.{Bor}
use Rattle.rt1553_tool.specs.Parts.{is_blank}

-- how many bytes stand before the first `#`
unfoldable pub comment_at : List ℕ → ℕ
comment_at [] = 0
comment_at (b ∷ bytes) = if b == 35 then 0 else suc (comment_at bytes)

-- how many bytes stand before the first blank
unfoldable pub piece_len : List ℕ → ℕ
piece_len [] = 0
piece_len (b ∷ bytes) = if is_blank b then 0 else suc (piece_len bytes)

-- the bytes of parts
abbrev pub texts : List (Bor (List ℕ)) → List (List ℕ)
texts parts = map (λ part. part.now) parts
