use Rattle.std.proofs.Common.{ℕ, ◌≡◌, ◌<◌, ◌≤◌, false}
use Rattle.csv.specs.Records.{fields_of}
use Rattle.monitor_cells.specs.Cells.{is_some_text}
use Rattle.monitor_tables.specs.Fields.{record_text}
use Rattle.monitor_tables.proofs.records.refuse_extra.Given as goal

-- no field so far has text, from the width on
abbrev pub invariant-fields : goal.invariant-fields
invariant-fields l = (l.width ≤ l.field) × ((n : ℕ) → l.width ≤ n → n < l.field → is_some_text (record_text (fields_of l.row) n) ≡ false)
