-- Why a text is no table.
use Rattle.std.specs.Prelude.{ℕ, ◌<◌, List, [], length, get_or, ⊤}
use Rattle.csv.specs.Records.{AllText}
use Rattle.csv_rows.specs.declared.rows.CsvFault.{CsvFault}
use Rattle.csv_rows.specs.declared.rows.CsvFault.TheVariants as csv
use Rattle.csv_rows.specs.Rows.{AreRows, AreNoRows}
use Rattle.rt1553_import.specs.declared.fault.ImportFault.{ImportFault}
use Rattle.rt1553_import.specs.declared.fault.ImportFault.TheVariants.{Faults, LongNames, NotText, NotCsv, Memory}

-- the same fault, of a table
abbrev pub table_fault_of : CsvFault → ImportFault
table_fault_of (csv.NotCsv place) = NotCsv place
table_fault_of csv.Memory = Memory

-- one of these rows has a field that is not UTF-8
pub record HasNoText (rows : List (List (List ℕ))) : Type 0 where
  pub place : ℕ
  pub there : place < length rows
  pub no_text : ¬ AllText (get_or rows place [])

-- why rows are no table: one is not UTF-8
abbrev pub IsUnreadable : List (List (List ℕ)) → ImportFault → Type 0
IsUnreadable rows (NotText line) = HasNoText rows
IsUnreadable rows Memory = ⊤
IsUnreadable rows _ = ⊥

-- the text is CSV, and one of its rows is not UTF-8
pub record IsUntext (text : List ℕ) : Type 0 where
  pub rows : List (List (List ℕ))
  pub read : AreRows text rows
  pub has : HasNoText rows

-- why a text is no table: it is no CSV, or not UTF-8; want of memory says nothing of it
abbrev pub IsNoTable : List ℕ → ImportFault → Type 0
IsNoTable text (Faults faults) = ⊥
IsNoTable text (NotText line) = IsUntext text
IsNoTable text (LongNames place) = ⊥
IsNoTable text (NotCsv place) = AreNoRows text (csv.NotCsv place)
IsNoTable text Memory = ⊤
