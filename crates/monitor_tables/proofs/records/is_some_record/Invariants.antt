use Rattle.std.proofs.Common.{◌≡◌, ◌≤◌, length, drop}
use Rattle.csv.specs.Records.{fields_of}
use Rattle.monitor_tables.specs.Table.{is_some_record}
use Rattle.monitor_tables.proofs.records.is_some_record.Given as goal

-- no field so far has text
abbrev pub invariant-fields : goal.invariant-fields
invariant-fields l = (is_some_record (fields_of l.row) ≡ is_some_record (drop l.field (fields_of l.row))) × (l.field ≤ length (fields_of l.row))
