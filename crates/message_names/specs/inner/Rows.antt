-- A row as the code keeps it.
use Rattle.std.specs.Prelude.{string_bytes}
use Rattle.message_names.specs.declared.names.NamedRow.{NamedRow}
use Rattle.message_names.specs.NameRow.{NameRow}

-- the row of the table of names that such a row means
abbrev pub name_row : NamedRow → NameRow
name_row row = record { name = string_bytes row.name; cells = row.cells }
