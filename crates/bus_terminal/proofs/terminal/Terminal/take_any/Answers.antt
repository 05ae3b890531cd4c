use Rattle.std.proofs.Common.{None, sym, ◌∙◌}
use Rattle.bus_terminal.proofs.StandsLaw.{word_stands, gap_stands, slot_stands}
use Rattle.bus_terminal.proofs.terminal.Terminal.take_any.Goals as goal

pub returns-then-not-replies_on-clause-takes : goal.returns-then-not-replies_on-clause-takes
returns-then-not-replies_on-clause-takes g c P h s =
    rw c.in-Noise.is (word_stands g.L.Legality.is_legal P h c.in-Noise.bus None c.args.self.now c.take_noise.new.self (sym c.replies_on.ensures ∙ c.if-not-replies_on.true) s c.take_noise.ensures)

pub returns-then-not-replies_on-2-clause-takes : goal.returns-then-not-replies_on-2-clause-takes
returns-then-not-replies_on-2-clause-takes g c P h s =
    rw c.in-Gap.is (gap_stands g.L.Legality.is_legal P h c.in-Gap.bus c.args.self.now c.take_gap.new.self (sym c.replies_on-in-Gap.ensures ∙ c.if-not-replies_on-2.true) s c.take_gap.ensures.takes)

pub returns-in-Slot-clause-takes : goal.returns-in-Slot-clause-takes
returns-in-Slot-clause-takes g c P h s = rw c.in-Slot.is (slot_stands g.L.Legality.is_legal P h c.args.self.now c.take_slot.new.self s c.take_slot.ensures.takes)
