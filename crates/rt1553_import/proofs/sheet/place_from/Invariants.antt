use Rattle.std.proofs.Common.{◌≡◌}
use Rattle.csv.specs.Records.{fields_of}
use Rattle.rt1553_import.specs.Columns.{place_from}
use Rattle.rt1553_import.proofs.sheet.place_from.Given as goal

abbrev pub invariant-loop-place : goal.invariant-loop-place
invariant-loop-place l = place_from l.text l.place (fields_of l.fields) ≡ place_from l.text l.start (fields_of l.fields)
