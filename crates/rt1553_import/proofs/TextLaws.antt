-- A row whose fields are not all UTF-8.
use Rattle.std.proofs.Common.{◌≡◌, ◌∙◌, ℕ, ◌<◌, List, [], length, map, get_or, sym, ap, subst, arith}
use Rattle.std.proofs.lemmas.List.{length-map, get_or-map}
use Rattle.csv.specs.Records.{AllText}
use Rattle.csv_rows.specs.declared.rows.CsvRow.{CsvRow}
use Rattle.csv_rows.specs.Rows.{record_fields}
use Rattle.rt1553_import.specs.NoTable.{HasNoText}

pub untext : (rows : List CsvRow) (n : ℕ) (row : CsvRow) → (n < length rows) × (row ≡ get_or rows n row) → ¬ AllText (record_fields row) → HasNoText (map record_fields rows)
untext rows n row at none = record {
  place = n;
  there = omega (arith, at.0, length-map rows record_fields);
  no_text = λ all. none (subst AllText (get_or-map record_fields rows n row [] at.0 ∙ ap record_fields (sym at.1)) all);
}
