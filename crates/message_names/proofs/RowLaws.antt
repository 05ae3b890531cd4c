-- Rows of which each has another name.
use Rattle.std.proofs.Common.{ℕ, ◌≡◌, ◌∙◌, ◌≤◌, List, [], ◌∷◌, ◌++◌, length, map, drop, refl, sym, ap, append-nil}
use Rattle.std.proofs.lemmas.List.{drop_all}
use Rattle.message_names.specs.declared.cells.NamedCells.{NamedCells}
use Rattle.message_names.specs.declared.names.NamedRow.{NamedRow}
use Rattle.message_names.specs.NameRow.{NameRow}
use Rattle.message_names.specs.inner.Rows.{name_row}

abbrev pub row_cells : NamedRow → NamedCells
row_cells row = row.cells

cells-rows : (rows : List NamedRow) → map (λ (row : NameRow). row.cells) (map name_row rows) ≡ map row_cells rows
cells-rows [] = refl
cells-rows (row ∷ rows) = ap (λ cells. row.cells ∷ cells) (cells-rows rows)

-- all rows have their cells, where those so far and those that are left have them
pub all_cells : (new old : List NamedRow) (i : ℕ) → length old ≤ i → map row_cells new ++ map row_cells (drop i old) ≡ map row_cells old
    → map (λ (row : NameRow). row.cells) (map name_row new) ≡ map (λ (row : NameRow). row.cells) (map name_row old)
all_cells new old i low all =
    cells-rows new ∙ sym (append-nil (map row_cells new)) ∙ ap (λ rows. map row_cells new ++ map row_cells rows) (sym (drop_all i old low)) ∙ all ∙ sym (cells-rows old)
