use Rattle.std.proofs.Common.{rules, ◌≡◌, List, Option, length, ap, sym, subst, ◌∙◌}
use Rattle.terminal_rules.specs.declared.event.Event.TheVariants.{Slot}
use Rattle.terminal_bus.specs.declared.seat.Seat.{Seat}
use Rattle.terminal_bus.specs.AtMembers.{EachSeat}
use Rattle.terminal_bus.specs.inner.Seats.{SeatSteps, SlotSteps}
use Rattle.terminal_bus.proofs.Places.{refilled}
use Rattle.terminal_bus.proofs.bus.TerminalBus.pass_slot.Goals as goal

pub returns : goal.returns
returns g c =
    let lent = c.as_mut_slice-places.ensures.value in
    let l1 : length c.each_steps.new.places ≡ length c.as_mut_slice-places.result.now = search rules in
    let l2 : length c.exchange-a.new.places ≡ length c.each_steps.new.places = search rules in
    let l3 : length c.exchange-b.new.places ≡ length c.exchange-a.new.places = search rules in
    subst (λ (ws : List (Option (Seat g.row.L.Denot))). SlotSteps g.L.Legality.is_legal c.args.self.now.seats.items ws (record { a = c.exchange-a.result; b = c.exchange-b.result }))
    (sym (refilled c.args.self.now.seats.items c.as_mut_slice-places.result.now c.exchange-b.new.places lent (l3 ∙ l2 ∙ l1)))
    record {
      slot = c.each_steps.new.places;
      a_heard = c.exchange-a.new.places;
      length_slot = l1 ∙ ap length lent;
      length_a = l2 ∙ l1 ∙ ap length lent;
      length_b = l3 ∙ l2 ∙ l1 ∙ ap length lent;
      steps = subst (λ (os : List (Option (Seat g.row.L.Denot))). EachSeat (SeatSteps g.L.Legality.is_legal Slot) os c.each_steps.new.places) lent c.each_steps.ensures;
      a_hears = c.exchange-a.ensures.hears;
      b_hears = c.exchange-b.ensures.hears;
      a_many = c.exchange-a.ensures.collides;
      b_many = c.exchange-b.ensures.collides;
    }
