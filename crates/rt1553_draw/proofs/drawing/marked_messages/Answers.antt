use Rattle.std.specs.List.{All}
use Rattle.rt1553_draw.specs.declared.part.DrawnMessage.{DrawnMessage}
use Rattle.rt1553_draw.specs.inner.Marked.{IsMarkedBy}
use Rattle.rt1553_draw.proofs.MarkedLaws.{all_more, messages_more}
use Rattle.rt1553_draw.proofs.drawing.marked_messages.Goals as goal

pub loop-part-preserved : goal.loop-part-preserved
loop-part-preserved c =
    let i = c.loop-part.invariant in
    let e = c.in_ok-marked.ensures in
    let P : DrawnMessage → Type 0 = λ part. All (IsMarkedBy c.args.stated.now) part.columns.items in
    rw c.in_ok-push.ensures.items (record {
      drawn = messages_more c.loop-part.marked.items c.loop-part.yielded c.in_ok-marked.field-0 c.in-Some.part i.drawn e.drawn;
      marked = all_more P c.loop-part.marked.items c.in_ok-marked.field-0 i.marked e.marked;
    })
