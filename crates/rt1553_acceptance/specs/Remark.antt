-- The name of a message, as a remark behind what an exchange tries.
use Rattle.std.specs.Prelude.{ℕ, ◌+◌, nat_le, ◌==◌, Bool, not, ◌&&◌, if◌then◌else◌, Option, Some, None, List, [], ◌∷◌, length}
use Rattle.std.specs.List.{list_all}
use Rattle.bus_word.specs.declared.cell.Cell.{Cell}
use Rattle.bus_word.specs.Cell.{cell_of}
use Rattle.message_names.specs.NameRow.{NameRow}
use Rattle.message_names.specs.Names.{name_of}

-- the text has no control character of ASCII
abbrev pub has_no_control : List ℕ → Bool
has_no_control text = list_all (λ b. nat_le 32 b && not (b == 127)) text

-- a name behind a space, if it has room behind a label on the line of a comment, which has at most 64 bytes
abbrev pub remark_with : List ℕ → Option (List ℕ) → List ℕ
remark_with label None = []
remark_with label (Some name) = if nat_le (length label + length name) 61 && has_no_control name then 32 ∷ name else []

-- the name of the message of a command, if it has one
abbrev pub name_asked : List NameRow → Option Cell → Option (List ℕ)
name_asked rows None = None
name_asked rows (Some cell) = name_of rows cell

-- what stands behind a label of an exchange with this command
abbrev pub remark_of : List NameRow → List ℕ → ℕ → List ℕ
remark_of rows label c = remark_with label (name_asked rows (cell_of c))
