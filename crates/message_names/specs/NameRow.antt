-- A row of names, apart from how the code keeps it.
use Rattle.std.specs.Prelude.{ℕ, List}
use Rattle.message_names.specs.declared.cells.NamedCells.{NamedCells}

-- a name, and the cells that it is the name of
pub record NameRow : Type 0 where
  pub name : List ℕ
  pub cells : NamedCells
