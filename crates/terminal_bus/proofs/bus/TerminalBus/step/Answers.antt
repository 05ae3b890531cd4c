use Rattle.std.proofs.Common.{rules, ◌≡◌, length, refl, ap, sym, ◌∙◌}
use Rattle.terminal_state.specs.declared.buses.OnBuses.{OnBuses}
use Rattle.terminal_bus.specs.declared.event.BusEvent.TheVariants.{OnBus, SlotPasses, Subsystem}
use Rattle.terminal_bus.specs.AtMembers.{collisions}
use Rattle.terminal_bus.specs.inner.Seats.{SeatSteps, StepsIfAddressed}
use Rattle.terminal_bus.proofs.Places.{refilled}
use Rattle.terminal_bus.proofs.Same.{same_lent, same_slot}
use Rattle.terminal_bus.proofs.Together.{SlotDone, on_bus_lent, subsystem_lent, slot_done, stands_after, answers_after}
use Rattle.terminal_bus.proofs.bus.TerminalBus.step.Goals as goal

pub returns-in-OnBus-clause-stands : goal.returns-in-OnBus-clause-stands
returns-in-OnBus-clause-stands g c members s =
    let l : length c.each_steps.new.places ≡ length c.as_mut_slice.result.now = search rules in
    stands_after g.L.Legality.is_legal members c.args.event (OnBus c.in-OnBus.event) _ c.each_steps.new.places c.in-OnBus.is
    (refilled c.args.self.now.seats.items c.as_mut_slice.result.now c.each_steps.new.places c.as_mut_slice.ensures.value l)
    (on_bus_lent g.L.Legality.is_legal members c.in-OnBus.event c.args.self.now.seats.items c.as_mut_slice.result.now c.each_steps.new.places c.as_mut_slice.ensures.value l s c.each_steps.ensures)

pub returns-in-OnBus-clause-answers : goal.returns-in-OnBus-clause-answers
returns-in-OnBus-clause-answers g c members s =
    let l : length c.each_steps.new.places ≡ length c.as_mut_slice.result.now = search rules in
    answers_after g.L.Legality.is_legal members c.args.event (OnBus c.in-OnBus.event) _ c.each_steps.new.places c.in-OnBus.is
    (refilled c.args.self.now.seats.items c.as_mut_slice.result.now c.each_steps.new.places c.as_mut_slice.ensures.value l)
    (on_bus_lent g.L.Legality.is_legal members c.in-OnBus.event c.args.self.now.seats.items c.as_mut_slice.result.now c.each_steps.new.places c.as_mut_slice.ensures.value l s c.each_steps.ensures)

pub returns-in-Subsystem-clause-stands : goal.returns-in-Subsystem-clause-stands
returns-in-Subsystem-clause-stands g c members s =
    let l : length c.addressed_steps.new.places ≡ length c.as_mut_slice-in-Subsystem.result.now = search rules in
    stands_after g.L.Legality.is_legal members c.args.event (Subsystem c.in-Subsystem.address c.in-Subsystem.event) _ c.addressed_steps.new.places c.in-Subsystem.is
    (refilled c.args.self.now.seats.items c.as_mut_slice-in-Subsystem.result.now c.addressed_steps.new.places c.as_mut_slice-in-Subsystem.ensures.value l)
    (subsystem_lent g.L.Legality.is_legal members c.in-Subsystem.address c.in-Subsystem.event c.args.self.now.seats.items c.as_mut_slice-in-Subsystem.result.now c.addressed_steps.new.places c.as_mut_slice-in-Subsystem.ensures.value l s c.addressed_steps.ensures)

pub returns-in-Subsystem-clause-answers : goal.returns-in-Subsystem-clause-answers
returns-in-Subsystem-clause-answers g c members s =
    let l : length c.addressed_steps.new.places ≡ length c.as_mut_slice-in-Subsystem.result.now = search rules in
    answers_after g.L.Legality.is_legal members c.args.event (Subsystem c.in-Subsystem.address c.in-Subsystem.event) _ c.addressed_steps.new.places c.in-Subsystem.is
    (refilled c.args.self.now.seats.items c.as_mut_slice-in-Subsystem.result.now c.addressed_steps.new.places c.as_mut_slice-in-Subsystem.ensures.value l)
    (subsystem_lent g.L.Legality.is_legal members c.in-Subsystem.address c.in-Subsystem.event c.args.self.now.seats.items c.as_mut_slice-in-Subsystem.result.now c.addressed_steps.new.places c.as_mut_slice-in-Subsystem.ensures.value l s c.addressed_steps.ensures)

pub returns-in-SlotPasses-clause-stands : goal.returns-in-SlotPasses-clause-stands
returns-in-SlotPasses-clause-stands g c members s =
    stands_after g.L.Legality.is_legal members c.args.event SlotPasses c.pass_slot.new.self.seats.items c.pass_slot.new.self.seats.items c.in-SlotPasses.is refl
    (slot_done g.L.Legality.is_legal members c.args.self.now.seats.items c.pass_slot.new.self.seats.items c.pass_slot.result s c.pass_slot.ensures).done

pub returns-in-SlotPasses-clause-answers : goal.returns-in-SlotPasses-clause-answers
returns-in-SlotPasses-clause-answers g c members s =
    answers_after g.L.Legality.is_legal members c.args.event SlotPasses c.pass_slot.new.self.seats.items c.pass_slot.new.self.seats.items c.in-SlotPasses.is refl
    (slot_done g.L.Legality.is_legal members c.args.self.now.seats.items c.pass_slot.new.self.seats.items c.pass_slot.result s c.pass_slot.ensures).done

pub returns-in-SlotPasses-clause-collisions : goal.returns-in-SlotPasses-clause-collisions
returns-in-SlotPasses-clause-collisions g c members s =
    let it : SlotDone g.L.Legality.is_legal members c.pass_slot.new.self.seats.items c.pass_slot.result.a c.pass_slot.result.b
    = slot_done g.L.Legality.is_legal members c.args.self.now.seats.items c.pass_slot.new.self.seats.items c.pass_slot.result s c.pass_slot.ensures in
    (λ j. (let both : OnBuses = record { a = it.on_a j; b = it.on_b j } in both)) ∙ ap (λ x. collisions members x) (sym c.in-SlotPasses.is)

pub returns-in-OnBus-clause-same : goal.returns-in-OnBus-clause-same
returns-in-OnBus-clause-same g c =
    let l : length c.each_steps.new.places ≡ length c.as_mut_slice.result.now = search rules in
    same_lent g.L.Legality.is_legal (SeatSteps g.L.Legality.is_legal c.in-OnBus.event) (λ s t r. r.same) c.args.self.now.seats.items c.as_mut_slice.result.now c.each_steps.new.places _
    c.as_mut_slice.ensures.value
    (refilled c.args.self.now.seats.items c.as_mut_slice.result.now c.each_steps.new.places c.as_mut_slice.ensures.value l) c.each_steps.ensures

pub returns-in-Subsystem-clause-same : goal.returns-in-Subsystem-clause-same
returns-in-Subsystem-clause-same g c =
    let l : length c.addressed_steps.new.places ≡ length c.as_mut_slice-in-Subsystem.result.now = search rules in
    same_lent g.L.Legality.is_legal (StepsIfAddressed g.L.Legality.is_legal c.in-Subsystem.address c.in-Subsystem.event) (λ s t r. r.same) c.args.self.now.seats.items c.as_mut_slice-in-Subsystem.result.now c.addressed_steps.new.places _
    c.as_mut_slice-in-Subsystem.ensures.value
    (refilled c.args.self.now.seats.items c.as_mut_slice-in-Subsystem.result.now c.addressed_steps.new.places c.as_mut_slice-in-Subsystem.ensures.value l) c.addressed_steps.ensures

pub returns-in-SlotPasses-clause-same : goal.returns-in-SlotPasses-clause-same
returns-in-SlotPasses-clause-same g c = same_slot g.L.Legality.is_legal c.args.self.now.seats.items c.pass_slot.new.self.seats.items c.pass_slot.result c.pass_slot.ensures
