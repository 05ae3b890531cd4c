use Rattle.std.proofs.Common.{◌∷◌, subst, arith}
use Rattle.terminal_rules.specs.declared.event.Event.TheVariants.{Slot}
use Rattle.bus_terminal.specs.Stands.{StandsAt}
use Rattle.rt1553_results.proofs.PlayLaws.{slots_more, slots_over, sent_more, sent_over}
use Rattle.rt1553_results.proofs.playing.take_slots.Goals as goal

pub loop-i-preserved : goal.loop-i-preserved
loop-i-preserved g c = record {
  room = omega arith;
  sent = (λ P h s.
      (let k = c.loop-i.invariant.sent P h s in (
        Slot ∷ k.0,
        c.take_slot.ensures.stands P k.0 k.1,
        slots_more c.args.slots c.loop-i.i k.0 _ c.loop-i-test.true k.2,
        sent_more P k.0 _ _ _ c.args.slots c.loop-i.i c.loop-i-test.true (c.take_slot.ensures.sent P k.0 k.1) k.3,
      )));
}

pub returns-clause-stands : goal.returns-clause-stands
returns-clause-stands g c P h s =
    let k = c.loop-i.invariant.sent P h s in
    subst (λ h. StandsAt g.L.Legality.is_legal P h c.loop-i.terminal) (slots_over c.args.slots c.loop-i.i k.0 _ c.loop-i-test.false k.2) k.1

pub returns-clause-sent : goal.returns-clause-sent
returns-clause-sent g c P h s =
    let k = c.loop-i.invariant.sent P h s in
    sent_over P k.0 _ _ c.args.slots c.loop-i.i c.loop-i-test.false k.3
