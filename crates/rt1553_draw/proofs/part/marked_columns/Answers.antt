use Rattle.rt1553_draw.specs.inner.Marked.{IsMarkedBy}
use Rattle.rt1553_draw.proofs.MarkedLaws.{all_more, columns_more}
use Rattle.rt1553_draw.proofs.part.marked_columns.Goals as goal

pub loop-column-preserved : goal.loop-column-preserved
loop-column-preserved c =
    let i = c.loop-column.invariant in
    let e = c.in_ok-marked.ensures in
    rw c.in_ok-push.ensures.items (record {
      same = columns_more c.loop-column.marked.items c.loop-column.yielded c.in_ok-marked.field-0 c.in-Some.column i.same e.of;
      marked = all_more (IsMarkedBy c.args.stated.now) c.loop-column.marked.items c.in_ok-marked.field-0 i.marked e.marked;
    })
