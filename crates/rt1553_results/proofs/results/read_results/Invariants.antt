use Rattle.std.proofs.Common.{map, take}
use Rattle.csv_rows.specs.Rows.{record_fields}
use Rattle.rt1553_results.proofs.ResultLaws.{SoFar}
use Rattle.rt1553_results.proofs.results.read_results.Given as goal

abbrev pub invariant-loop-row : goal.invariant-loop-row
invariant-loop-row l = SoFar l.columns (map record_fields (take l.row-index l.row-items)) l.results
