use Rattle.std.proofs.Common.{◌≡◌, ◌++◌, All, map, drop, string_bytes}
use Rattle.rt1553_files.specs.Printable.{PrintsOnOneLine}
use Rattle.message_names.proofs.names.MessageNames.printed.Given as goal

abbrev pub invariant-loop-row : goal.invariant-loop-row
invariant-loop-row l = record {
  cells : map (λ row. row.cells) l.rows.items ++ map (λ row. row.cells) (drop l.row-index l.row-items) ≡ map (λ row. row.cells) l.row-items;
  plain : All (λ row. PrintsOnOneLine (string_bytes row.name)) l.rows.items;
}
