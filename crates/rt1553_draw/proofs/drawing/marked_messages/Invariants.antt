use Rattle.std.proofs.Common.{◌≡◌}
use Rattle.std.specs.List.{All}
use Rattle.rt1553_draw.specs.inner.Drawn.{drawn_in}
use Rattle.rt1553_draw.specs.inner.Marked.{IsMarkedBy}
use Rattle.rt1553_draw.proofs.drawing.marked_messages.Given as goal

abbrev pub invariant-loop-part : goal.invariant-loop-part
invariant-loop-part l = record {
  drawn : drawn_in l.marked.items ≡ drawn_in l.yielded;
  marked : All (λ part. All (IsMarkedBy l.stated) part.columns.items) l.marked.items;
}
