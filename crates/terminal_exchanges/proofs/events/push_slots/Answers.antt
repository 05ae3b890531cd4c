use Rattle.std.proofs.Common.{◌+◌, ◌++◌, [], ◌∷◌, ap, refl, ◌∙◌, arith}
use Rattle.terminal_rules.specs.declared.event.Event.TheVariants.{Slot}
use Rattle.terminal_exchanges.proofs.EventLaws.{slots-more}
use Rattle.terminal_exchanges.proofs.events.push_slots.Goals as goal

pub loop-slot-preserved : goal.loop-slot-preserved
loop-slot-preserved c = record {
  items =
      c.push.ensures.items
      ∙ (ap (λ events. events ++ Slot ∷ []) c.loop-slot.invariant.items
      ∙ slots-more c.args.script.now.items c.loop-slot._slot (c.loop-slot._slot + 1) refl);
  long = omega arith;
}
