-- The better of two beginnings: more is explained after it.
use Rattle.std.specs.Prelude.{◌≡◌, ◌≤◌, ◌⊎◌, Option, Some, None}
use Rattle.recorded_terminal.specs.declared.watch.Unexplained.{Unexplained}
use Rattle.recorded_terminal.specs.declared.beginnings.BestBeginning.{BestBeginning}

-- neither of two sightings that nothing explains comes after this one; or one of them is none, and it is too
abbrev pub IsLatest : Option Unexplained → Option Unexplained → Option Unexplained → Type 0
IsLatest (Some x) (Some y) (Some it) = (x.number ≤ it.number) × (y.number ≤ it.number)
IsLatest None y None = Unit {0}
IsLatest (Some x) None None = Unit {0}
IsLatest _ _ _ = ⊥

-- it is one of the two
pub record IsBetter (one other it : BestBeginning) : Type 0 where
  pub is : (it ≡ one) ⊎ (it ≡ other)
  pub latest : IsLatest one.first other.first it.first
