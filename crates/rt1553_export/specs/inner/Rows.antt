-- The rows of a table, each a list of the texts of its cells.
use Rattle.std.specs.Prelude.{ℕ, List, [], ◌∷◌, ◌++◌, codes}
use Rattle.csv.specs.Writing.{default_writer, row_text}

-- the names of the columns
abbrev pub header_cells : List (List ℕ)
header_cells =
    codes "kind" ∷ codes "value" ∷ codes "subaddress" ∷ codes "words" ∷ codes "code" ∷ codes "to" ∷ codes "initial" ∷ codes "legal" ∷ codes "name" ∷ []

-- a setting
abbrev pub setting_cells : List ℕ → List ℕ → List (List ℕ)
setting_cells kind value = kind ∷ value ∷ [] ∷ [] ∷ [] ∷ [] ∷ [] ∷ [] ∷ [] ∷ []

-- a message of data
abbrev pub message_cells : List ℕ → List ℕ → List ℕ → List ℕ → List ℕ → List ℕ → List (List ℕ)
message_cells direction subaddress words to initial legal = direction ∷ [] ∷ subaddress ∷ words ∷ [] ∷ to ∷ initial ∷ legal ∷ [] ∷ []

-- mode codes
abbrev pub mode_cells : List ℕ → List ℕ → List ℕ → List ℕ → List (List ℕ)
mode_cells code to legal name = codes "mode" ∷ [] ∷ [] ∷ [] ∷ code ∷ to ∷ [] ∷ legal ∷ name ∷ []

-- the text of a row
unfoldable pub row_bytes : List (List ℕ) → List ℕ
row_bytes row = row_text default_writer row

-- rows, one after the other
abbrev pub rows_text : List (List (List ℕ)) → List ℕ
rows_text [] = []
rows_text (row ∷ rows) = row_bytes row ++ rows_text rows
