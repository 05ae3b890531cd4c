use Rattle.std.proofs.Common.{◌≡◌, ◌++◌, ◌∷◌, ◌==◌, if◌then◌else◌, List, [], true, false, ap, sym, subst, ◌∙◌}
use Rattle.terminal_rules.specs.declared.event.Event.{Event}
use Rattle.terminal_rules.specs.declared.event.Event.TheVariants.{Slot}
use Rattle.terminal_bus.specs.Members.{events_for, bus_after}
use Rattle.terminal_bus.specs.AtMembers.{BusStandsAt, AnswersAt}
use Rattle.terminal_bus.proofs.CameLaw.{after_at}
use Rattle.terminal_bus.proofs.bus.TerminalBus.came_to.Goals as goal

pub returns-in-SlotPasses : goal.returns-in-SlotPasses
returns-in-SlotPasses g c members m stands kept at =
    let stood = subst (λ x. BusStandsAt g.L.Legality.is_legal (bus_after members x) c.args.self.now) c.in-SlotPasses.is stands in
    let answered = subst (λ x. AnswersAt members x c.args.self.now) c.in-SlotPasses.is kept in
    (λ j. Slot ∷ (c.heard.ensures members m stood answered at j ++ c.heard-in-SlotPasses.ensures members m stood answered at j))
    ∙ ap (λ x. events_for members x m) (sym c.in-SlotPasses.is)

pub returns-then-is_at : goal.returns-then-is_at
returns-then-is_at g c members m stands kept at =
    let own : (m.description.address == c.in-Subsystem.address) ≡ true = sym (c.is_at.ensures (bus_after members c.args.event) _ stands (after_at g.L.Legality.is_legal members c.args.event c.args.place m at)) ∙ c.if-is_at.true in
    c.only-then-is_at.ensures ∙ sym (ap (λ b. let es : List Event = if b then c.in-Subsystem.event ∷ [] else [] in es) own) ∙ ap (λ x. events_for members x m) (sym c.in-Subsystem.is)

pub returns-else-is_at : goal.returns-else-is_at
returns-else-is_at g c members m stands kept at =
    let other : (m.description.address == c.in-Subsystem.address) ≡ false = sym (c.is_at.ensures (bus_after members c.args.event) _ stands (after_at g.L.Legality.is_legal members c.args.event c.args.place m at)) ∙ c.if-is_at.false in
    sym (ap (λ b. let es : List Event = if b then c.in-Subsystem.event ∷ [] else [] in es) other) ∙ ap (λ x. events_for members x m) (sym c.in-Subsystem.is)
