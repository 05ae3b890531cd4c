use Rattle.std.proofs.Common.{◌∙◌, ap, map, sym}
use Rattle.tool_buses.specs.Cut.{told_alone}
use Rattle.tool_buses.specs.EndsWell.{message_put}
use Rattle.tool_buses.proofs.BusLefts.{told_one, told_other}
use Rattle.tool_buses.proofs.check.judged_messages.Goals.{in-Some+in_ok-in_run+in_ok-judged_message+in_ok-push, in_default}
use Rattle.tool_buses.proofs.check.judged_messages.Goals as goal

pub loop-part-preserved : goal.loop-part-preserved
loop-part-preserved c p =
    let vs = c.args.on.now.normals.items in
    let parts = c.args.parts.now in
    let i = c.loop-part.part-index in
    let part = c.part-item.result in
    let put = c.put_by.ensures ∙ ap message_put c.as_slice.ensures.value in
    elim c.match-put_by.branch [
      | in-Some+in_ok-in_run+in_ok-judged_message+in_ok-push w ↦
          ap (λ v. map told_alone v.items) w.judged-is
          ∙ (ap (map told_alone) w.in_ok-push.ensures.items
          ∙ told_one vs parts i part c.loop-part-test.true c.part-item.is c.loop-part.judged.items _ w.in-Some.put (sym put ∙ w.in-Some.is) (w.in_ok-judged_message.ensures p) (c.loop-part.invariant p))
      | in_default w ↦
          ap (λ v. map told_alone v.items) w.judged-is
          ∙ told_other vs parts i part c.loop-part-test.true c.part-item.is c.loop-part.judged.items (sym put ∙ w.in_default.is) (c.loop-part.invariant p)
    ]
