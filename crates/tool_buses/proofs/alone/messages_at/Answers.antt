use Rattle.std.proofs.Common.{◌≡◌, ◌∙◌, ◌+◌, ◌++◌, ◌∷◌, [], List, map, take, ap, sym, subst}
use Rattle.std.proofs.lemmas.List.{take_all, take_more}
use Rattle.bus_legal.specs.Description.{Description}
use Rattle.bus_legal.specs.Parts.{description_in}
use Rattle.bus_legal.specs.Tables.{tables_say}
use Rattle.bus_legal.specs.Parts.{Parts}
use Rattle.bus_legal.proofs.NormalLaws.{set_up_normal}
use Rattle.terminal_bus.specs.Came.{events_that_came}
use Rattle.terminal_bus.specs.declared.event.BusEvent.{BusEvent}
use Rattle.terminal_bus.specs.Members.{Member, play, powered_up}
use Rattle.terminal_messages.specs.declared.kept.KeptMessage.{KeptMessage}
use Rattle.terminal_messages.specs.Watch.{WatchStands}
use Rattle.tool_buses.proofs.AloneLaws.{WatchedAt, watched_none, watched_step, watched_place}
use Rattle.tool_buses.proofs.alone.messages_at.Goals as goal

pub loop-event-init : goal.loop-event-init
loop-event-init c vs p is =
    let v = c.args.normal.now in
    subst (λ (ms : List KeptMessage). WatchedAt (map description_in vs) c.args.place [] c.copy-played.result c.power_up-watch.result ms) (sym c.new-messages.ensures.items)
    (watched_none vs c.args.place v c.copy-played.result c.power_up-watch.result is (c.copy-played.ensures.stands (powered_up (map description_in vs)) p.stands)
    (subst (λ (P : Description). WatchStands (λ (normal : Parts). tables_say normal.tables) P (λ _. 0) [] c.power_up-watch.result) (set_up_normal v c.setup.result c.setup.ensures.parts) (c.power_up-watch.ensures (λ _. 0))))

pub loop-event-preserved : goal.loop-event-preserved
loop-event-preserved c vs p is =
    let events : List BusEvent = c.args.events.now in
    let n = c.loop-event.event-index in
    let x : BusEvent = c.event-item.result in
    let Ps : List Description = map description_in vs in
    let here : List Member = play (powered_up Ps) (take n events) in
    let w : WatchedAt Ps c.args.place (take n events) c.loop-event.played c.loop-event.watch c.loop-event.messages.items = c.loop-event.invariant vs p is in
    let next = c.step.ensures.stands here w.stands in
    let more : take (n + 1) events ≡ take n events ++ x ∷ [] = take_more events n x c.loop-event-test.true ∙ ap (λ y. take n events ++ y ∷ []) (sym c.event-item.is) in
    subst (λ l. WatchedAt Ps c.args.place l c.step.new.self c.watch_came.new.watch c.watch_came.new.messages.items) (sym more)
    (watched_step Ps c.args.place (take n events) x c.loop-event.played c.step.new.self c.loop-event.watch c.watch_came.new.watch c.loop-event.messages.items c.watch_came.new.messages.items (events_that_came c.came_to-came.result)
    w next (λ m there. c.came_to-came.ensures here m next (c.step.ensures.answers here w.stands) there) c.in_ok-watch_came.ensures)

pub returns : goal.returns
returns c vs p is =
    let Ps : List Description = map description_in vs in
    watched_place vs c.args.place c.args.normal.now c.args.events.now c.loop-event.played c.loop-event.watch c.loop-event.messages.items c.push_closed.new.messages.items c.end.result is
    (subst (λ l. WatchedAt Ps c.args.place l c.loop-event.played c.loop-event.watch c.loop-event.messages.items) (take_all c.loop-event.event-index c.args.events.now c.loop-event-test.false) (c.loop-event.invariant vs p is))
    (λ P h stands. c.end.ensures P (λ _. 0) h stands) c.in_ok-push_closed.ensures
