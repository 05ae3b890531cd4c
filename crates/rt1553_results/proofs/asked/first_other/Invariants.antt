use Rattle.std.proofs.Common.{map, take}
use Rattle.std.specs.List.{All}
use Rattle.csv_rows.specs.Rows.{record_fields}
use Rattle.rt1553_results.specs.Asked.{IsAskedRow}
use Rattle.rt1553_results.proofs.asked.first_other.Given as goal

abbrev pub invariant-loop-row : goal.invariant-loop-row
invariant-loop-row l = All (IsAskedRow l.commands l.columns) (map record_fields (take l.row-index l.rows))
