use Rattle.std.proofs.Common.{◌∙◌, ap, sym, subst}
use Rattle.terminal_schedules.specs.Left.{left_alone}
use Rattle.tool_buses.proofs.BusLefts.{IsClearOn, powered_clear, clear_on, left_more}
use Rattle.tool_buses.proofs.parts.lefts_of.Goals.{then-is_some, else-is_some}
use Rattle.tool_buses.proofs.parts.lefts_of.Goals as goal

pub loop-part-init : goal.loop-part-init
loop-part-init c Ps p = (c.new-lefts.ensures.items, powered_clear Ps c.args.bus.now c.copy-clear.result p c.copy-clear.ensures.stands)

pub loop-part-preserved : goal.loop-part-preserved
loop-part-preserved c Ps p =
    let before = c.loop-part.invariant Ps p in
    let left = c.play_to_clear-left.result in (
      left_more Ps c.args.parts.now c.loop-part.part-index c.part-item.result c.loop-part.lefts.items c.push.new.self.items left c.loop-part-test.true c.part-item.is
          (c.play_to_clear-left.ensures.left Ps p.differ p.low before.1 ∙ ap (left_alone Ps) c.as_slice.ensures.value) c.in_ok-push.ensures.items before.0,
      elim c.if-is_some.branch [
        | then-is_some w ↦ subst (IsClearOn Ps) (sym w.clear-is) (powered_clear Ps c.args.bus.now w.copy-clear-then-is_some.result p w.copy-clear-then-is_some.ensures.stands)
        | else-is_some w ↦ subst (IsClearOn Ps) (sym w.clear-is) (clear_on Ps left c.loop-part.clear c.play_to_clear-left.new.bus (sym c.is_some.ensures ∙ w.if-is_some.false) c.play_to_clear-left.ensures.clear before.1)
      ],
    )
