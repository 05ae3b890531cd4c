use Rattle.std.proofs.Common.{ℕ, ◌≡◌, ◌<◌, false}
use Rattle.csv.specs.Records.{fields_of}
use Rattle.monitor_tables.specs.Fields.{record_text, has_feed}
use Rattle.monitor_tables.proofs.records.fed_field.Given as goal

-- no field so far has a line feed
abbrev pub invariant-fields : goal.invariant-fields
invariant-fields l = (n : ℕ) → n < l.field → has_feed (record_text (fields_of l.row) n) ≡ false
