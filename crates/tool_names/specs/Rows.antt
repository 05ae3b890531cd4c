-- What the rows of a table are the names of.
use Rattle.std.specs.Prelude.{ℕ, Bool, true, false, ◌||◌, if◌then◌else◌, List, [], ◌∷◌, ◌++◌, Option, Some, None, codes}
use Rattle.std.specs.Str.{str_eq_ignore_ascii_case}
use Rattle.message_names.specs.declared.cells.NamedCells.{NamedCells}
use Rattle.message_names.specs.NameRow.{NameRow}
use Rattle.rt1553_import.specs.declared.column.TableColumn.TheVariants as column
use Rattle.rt1553_import.specs.declared.kind.RowKind.{RowKind}
use Rattle.rt1553_import.specs.declared.kind.RowKind.TheVariants as kind
use Rattle.rt1553_import.specs.declared.sheet.Sheet.{Sheet}
use Rattle.rt1553_import.specs.declared.sheet.TableRow.{TableRow}
use Rattle.rt1553_import.specs.Cells.{has_no_text}
use Rattle.rt1553_import.specs.Columns.{cell}
use Rattle.rt1553_import.specs.Kinds.{row_kind, is_setting, is_mode_kind}
use Rattle.tool_names.specs.Numbers.{numbers_named, counts_in}

-- a row of this kind speaks of words that the terminal receives
abbrev pub is_received : RowKind → Bool
is_received kind.Receive = true
is_received kind.Both = true
is_received _ = false

-- a row of this kind speaks of words that the terminal transmits
abbrev pub is_transmitted : RowKind → Bool
is_transmitted kind.Transmit = true
is_transmitted kind.Both = true
is_transmitted _ = false

-- the text in the column `to` says the own address, as no text does
abbrev pub goes_to_own : List ℕ → Bool
goes_to_own to = (has_no_text to || str_eq_ignore_ascii_case to (codes "own")) || str_eq_ignore_ascii_case to (codes "both")

-- it says broadcast
abbrev pub goes_by_broadcast : List ℕ → Bool
goes_by_broadcast to = str_eq_ignore_ascii_case to (codes "broadcast") || str_eq_ignore_ascii_case to (codes "both")

-- the set, or no number at all
abbrev pub set_if : Bool → ℕ → ℕ
set_if so set = if so then set else 0

-- the cells that a row of this kind speaks of
abbrev pub cells_of : Sheet → TableRow → RowKind → NamedCells
cells_of sheet row k = record {
  own = goes_to_own (cell sheet row column.To);
  broadcast = goes_by_broadcast (cell sheet row column.To);
  receive = set_if (is_received k) (numbers_named 1 30 (cell sheet row column.Subaddress));
  transmit = set_if (is_transmitted k) (numbers_named 1 30 (cell sheet row column.Subaddress));
  counts = counts_in (cell sheet row column.Words);
  codes = set_if (is_mode_kind k) (numbers_named 0 31 (cell sheet row column.Code));
}

-- names, with that of a row of this kind behind them, which may be empty: settings have none
abbrev pub with_kind : List NameRow → Sheet → TableRow → RowKind → List NameRow
with_kind names sheet row k =
    if is_setting k then names else names ++ record { name = cell sheet row column.Name; cells = cells_of sheet row k } ∷ []

-- the same, where the kind of the row is known; else no name is added
abbrev pub with_kind_if : List NameRow → Sheet → TableRow → Option RowKind → List NameRow
with_kind_if names sheet row None = names
with_kind_if names sheet row (Some k) = with_kind names sheet row k

-- names, with that of a row of a table behind them
abbrev pub with_table_row : Sheet → List NameRow → TableRow → List NameRow
with_table_row sheet names row = with_kind_if names sheet row (row_kind (cell sheet row column.Kind))
