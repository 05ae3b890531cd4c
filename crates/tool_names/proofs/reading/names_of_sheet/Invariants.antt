use Rattle.std.proofs.Common.{◌≡◌, drop, fold}
use Rattle.tool_names.specs.Rows.{with_table_row}
use Rattle.tool_names.specs.Names.{names_of_sheet}
use Rattle.tool_names.proofs.reading.names_of_sheet.Given as goal

abbrev pub invariant-loop-row : goal.invariant-loop-row
invariant-loop-row l = fold (with_table_row l.sheet) l.names (drop l.row-index l.row-items) ≡ names_of_sheet l.sheet
