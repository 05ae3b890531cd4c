use Rattle.std.proofs.Common.{◌≡◌, map}
use Rattle.csv_rows.specs.Rows.{record_fields}
use Rattle.rt1553_import.specs.Reading.{row_fields}
use Rattle.rt1553_import.proofs.reading.text_rows.Given as goal

abbrev pub invariant-loop-row : goal.invariant-loop-row
invariant-loop-row l = map row_fields l.table.items ≡ map record_fields l.yielded
