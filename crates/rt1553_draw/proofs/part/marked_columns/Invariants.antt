use Rattle.std.proofs.Common.{◌≡◌, map}
use Rattle.std.specs.List.{All}
use Rattle.rt1553_draw.specs.inner.Marked.{IsMarkedBy}
use Rattle.rt1553_draw.proofs.part.marked_columns.Given as goal

abbrev pub invariant-loop-column : goal.invariant-loop-column
invariant-loop-column l = record {
  same : map (λ column. column.of) l.marked.items ≡ map (λ column. column.of) l.yielded;
  marked : All (IsMarkedBy l.stated) l.marked.items;
}
