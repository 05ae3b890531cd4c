use Rattle.csv.specs.Records.{fields_of}
use Rattle.monitor_tables.specs.Header.{monitor_column_name}
use Rattle.monitor_tables.proofs.HeaderLaws.{FoundBefore}
use Rattle.monitor_tables.proofs.header.find_column.Given as goal

abbrev pub invariant-loop-field : goal.invariant-loop-field
invariant-loop-field l = FoundBefore (monitor_column_name l.column) (fields_of l.header) l.field l.found
