use Rattle.csv.specs.Records.{fields_of}
use Rattle.monitor_tables.specs.Header.{left_fields, AreLeftOutColumns}
use Rattle.monitor_tables.proofs.header.left_out.Given as goal

-- just the columns of the fields so far that are left out were told
abbrev pub invariant-fields : goal.invariant-fields
invariant-fields l = AreLeftOutColumns (fields_of l.header) l.line (left_fields l.layout (fields_of l.header) l.field) l.columns.items
