-- How the bytes of a text are gone through, and the fields of a record.
use Rattle.std.specs.Prelude.{ℕ, suc, ◌==◌, Bool, false, if◌then◌else◌, List, Option, Some, None}
use Rattle.csv_rows.specs.declared.place.CellPlace.{CellPlace}
use Rattle.csv_rows.specs.declared.field.FieldState.{FieldState}
use Rattle.csv_rows.specs.declared.field.FieldState.TheVariants.{Start, Plain, Quoted, Closed}
use Rattle.csv_rows.specs.Csv.{is_separator}
use Rattle.csv_rows.specs.Rows.{has_bytes}

-- how far a field is read after one more byte
abbrev pub next_state : ℕ → FieldState → ℕ → Option FieldState
next_state d Start b = if b == 34 then Some Quoted else if is_separator d b then Some Start else Some Plain
next_state d Plain b = if is_separator d b then Some Start else if b == 34 then None else Some Plain
next_state d Quoted b = if b == 34 then Some Closed else Some Quoted
next_state d Closed b = if b == 34 then Some Quoted else if is_separator d b then Some Start else None

-- the line of the byte after this one, where this byte ends a line
abbrev pub line_after : ℕ → ℕ → ℕ → ℕ
line_after feed line b = if b == feed then suc line else line

-- the place of the field after the one at this place, which this byte ends
abbrev pub place_after : ℕ → CellPlace → ℕ → ℕ → CellPlace
place_after d place line b = record { row = line; column = if b == d then suc place.column else 1 }

-- the field is there and has text
abbrev pub is_filled : Option (List ℕ) → Bool
is_filled None = false
is_filled (Some field) = has_bytes field
