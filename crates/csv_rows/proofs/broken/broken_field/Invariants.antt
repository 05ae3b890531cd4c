use Rattle.std.proofs.Common.{◌≡◌, ◌≤◌, ◌+◌, drop}
use Rattle.csv_rows.specs.declared.field.FieldState.TheVariants.{Start}
use Rattle.csv_rows.proofs.ScanLaws.{scan, first_place}
use Rattle.csv_rows.proofs.broken.broken_field.Given as goal

-- what is found in the rest is what is found in the whole; lines and columns are no more than bytes
abbrev pub invariant-loop-byte : goal.invariant-loop-byte
invariant-loop-byte l = (scan l.feed l.delimiter l.state l.place l.line (drop l.byte-index l.text) ≡ scan l.feed l.delimiter Start first_place 1 l.text)
    × (l.line ≤ l.byte-index + 1) × (l.place.column ≤ l.byte-index + 1)
