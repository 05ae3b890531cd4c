-- Texts that are written piece by piece.
use Rattle.std.specs.Prelude.{ℕ, ◌≡◌, List, ◌++◌}

-- behind the old text just this piece was written
pub record AddsPiece (old new piece : List ℕ) : Type 0 where
  pub is : new ≡ old ++ piece
