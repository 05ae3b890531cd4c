use Rattle.std.proofs.Common.{◌≡◌, drop}
use Rattle.std.specs.List.{list_any}
use Rattle.csv.specs.Records.{fields_of}
use Rattle.csv_rows.specs.Rows.{has_bytes, says_something}
use Rattle.csv_rows.proofs.rows.says_something.Given as goal

abbrev pub invariant-loop-place : goal.invariant-loop-place
invariant-loop-place l = list_any has_bytes (drop l.place (fields_of l.fields)) ≡ says_something (fields_of l.fields)
