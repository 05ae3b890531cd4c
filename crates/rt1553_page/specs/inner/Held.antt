-- The rows that a room has.
use Rattle.std.specs.Prelude.{◌≡◌, ℕ, ◌<◌, true, false, List, length, take}
use Rattle.rt1553_page.specs.declared.listing.Filled.{Filled}

-- the room has these rows in front, or they have more bytes than the room
pub record Holds (rows : List ℕ) (room : List ℕ) (filled : Filled) : Type 0 where
  pub whole : filled.is_over ≡ false → take filled.bytes room ≡ rows
  pub over : filled.is_over ≡ true → length room < length rows
