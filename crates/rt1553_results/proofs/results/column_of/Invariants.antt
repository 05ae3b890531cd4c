use Rattle.csv.specs.Records.{fields_of}
use Rattle.rt1553_results.proofs.FieldLaws.{Found}
use Rattle.rt1553_results.proofs.results.column_of.Given as goal

abbrev pub invariant-loop-place : goal.invariant-loop-place
invariant-loop-place l = Found (fields_of l.header) l.name l.place l.found
