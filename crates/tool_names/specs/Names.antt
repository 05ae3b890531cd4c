-- The names of a table.
use Rattle.std.specs.Prelude.{ℕ, ◌≡◌, List, [], fold}
use Rattle.message_names.specs.NameRow.{NameRow}
use Rattle.rt1553_import.specs.declared.sheet.Sheet.{Sheet}
use Rattle.rt1553_import.specs.Import.{IsFaultless}
use Rattle.tool_names.specs.Rows.{with_table_row}

-- the names of the rows, in their order
abbrev pub names_of_sheet : Sheet → List NameRow
names_of_sheet sheet = fold (with_table_row sheet) [] sheet.rows.items

-- the text is a table without faults, and these are its names
pub record AreNamesOf (text : List ℕ) (names : List NameRow) : Type 0 where
  pub sheet : Sheet
  pub is : IsFaultless text sheet
  pub are : names ≡ names_of_sheet sheet
