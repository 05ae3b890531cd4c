use Rattle.bus_terminal.proofs.SlotsLaw.{slots_taken}
use Rattle.bus_terminal.proofs.terminal.Terminal.take_slots.Goals as goal

pub returns-then-count-gt0 : goal.returns-then-count-gt0
returns-then-count-gt0 g c P h s =
    slots_taken g.L.Legality.is_legal P h c.args.count c.args.self.now c.take_slot.new.self c.advance_by.new.reply c.if-count-gt0.true c.take_slot.ensures.takes c.advance_by.ensures s
