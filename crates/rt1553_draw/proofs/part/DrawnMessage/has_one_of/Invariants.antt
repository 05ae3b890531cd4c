use Rattle.std.proofs.Common.{◌≡◌, ◌==◌, drop}
use Rattle.std.specs.List.{list_any}
use Rattle.rt1553_draw.proofs.part.DrawnMessage.has_one_of.Given as goal

abbrev pub invariant-loop-column : goal.invariant-loop-column
invariant-loop-column l =
    list_any (λ column. list_any (λ line. line == column.of.line) l.lines) l.self.columns.items
    ≡ list_any (λ column. list_any (λ line. line == column.of.line) l.lines) (drop l.column-index l.self.columns.items)
