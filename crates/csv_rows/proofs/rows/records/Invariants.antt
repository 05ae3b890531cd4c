use Rattle.std.proofs.Common.{◌≡◌, ◌<◌, ℕ, List, Some, map}
use Rattle.csv.specs.Reading.{Reached, Ready, source_of, strip_bom}
use Rattle.csv.specs.declared.parser.State.TheVariants as st
use Rattle.csv.specs.declared.reader.Trim.TheVariants as trim
use Rattle.csv_rows.specs.Rows.{csv_config, record_fields, kept_rows}
use Rattle.csv_rows.proofs.rows.records.Given as goal

-- the rows are what is kept of the first records of the text, and the reader stands behind these
abbrev pub invariant-loop-record : goal.invariant-loop-record
invariant-loop-record l = (l.record-iterator.rdr.trim ≡ trim.None) × Ready l.record-iterator.rdr × (0 < l.record-iterator.left) × (l.record-iterator.rdr.config ≡ csv_config l.fn.delimiter)
    × (y : List ℕ) × (source_of (λ s. Some s.now) l.record-iterator.rdr ≡ Some y)
    × (records : List (List (List ℕ))) × (map record_fields l.rows.items ≡ kept_rows records)
    × Reached (csv_config l.fn.delimiter) st.StartRecord (strip_bom l.fn.text) records l.record-iterator.rdr.state y
