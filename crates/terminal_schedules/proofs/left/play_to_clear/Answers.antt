use Rattle.std.proofs.Common.{◌≤◌, ◌∙◌, length, take, subst, ap, arith}
use Rattle.std.proofs.lemmas.List.{take_all}
use Rattle.terminal_bus.specs.Members.{bus_after, play}
use Rattle.terminal_bus.specs.AtMembers.{BusStandsAt}
use Rattle.terminal_schedules.proofs.BusLaw.{played_more}
use Rattle.terminal_schedules.proofs.ClearLaw.{left_as_alone, clear_again, if_none_is}
use Rattle.terminal_schedules.proofs.left.play_to_clear.Goals as goal

pub loop-event-preserved : goal.loop-event-preserved
loop-event-preserved g c members stands =
    let xs = c.args.message.now in
    let i = c.loop-event.event-index in
    subst (λ ms. BusStandsAt g.L.Legality.is_legal ms c.step.new.self)
    (ap (bus_after (play members (take i xs))) c.event-item.is ∙ played_more members xs i c.event-item.result c.loop-event-test.true)
    (c.step.ensures.stands (play members (take i xs)) (c.loop-event.invariant members stands))

pub returns-clause-left : goal.returns-clause-left
returns-clause-left g c Ps differ low clear =
    let xs = c.args.message.now in
    let past : length xs ≤ c.loop-event.event-index = omega (arith, c.loop-event-test.false) in
    left_as_alone g.L.Legality.is_legal Ps xs c.args.bus.now c.loop-event.bus c.first_left.result differ low clear
    (subst (λ ys. BusStandsAt g.L.Legality.is_legal (play clear.members ys) c.loop-event.bus) (take_all c.loop-event.event-index xs past) (c.loop-event.invariant clear.members clear.stands))
    c.first_left.ensures

pub returns-clause-clear : goal.returns-clause-clear
returns-clause-clear g c =
    let xs = c.args.message.now in
    let past : length xs ≤ c.loop-event.event-index = omega (arith, c.loop-event-test.false) in
    if_none_is c.first_left.result _ (λ none Ps clear.
    clear_again g.L.Legality.is_legal Ps xs c.args.bus.now c.loop-event.bus c.first_left.result none clear
    (subst (λ ys. BusStandsAt g.L.Legality.is_legal (play clear.members ys) c.loop-event.bus) (take_all c.loop-event.event-index xs past) (c.loop-event.invariant clear.members clear.stands))
    c.first_left.ensures)
