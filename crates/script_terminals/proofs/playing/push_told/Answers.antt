use Rattle.std.proofs.Common.{◌∙◌, ◌++◌, ◌<◌, ◌≤◌, length, arith, ap, sym, append-nil}
use Rattle.std.proofs.lemmas.List.{length-map}
use Rattle.std.proofs.lemmas.Result.{on_ok_weaker}
use Rattle.terminal_bus.specs.Members.{events_for, after_events, bus_after}
use Rattle.script_terminals.proofs.TextLaws.{at_place, came_some, came_none}
use Rattle.script_terminals.proofs.playing.push_told.Goals as goal

pub returns-then-place-len : goal.returns-then-place-len
returns-then-place-len g c members stands answers collided =
    let count = c.len.ensures.count (bus_after members c.args.event.now) stands in
    let same = length-map members (λ n. after_events (events_for members c.args.event.now n) n) in
    let past : length members ≤ c.in-CameTo.place = omega (arith, c.if-place-len.true, count, same) in
    sym (append-nil c.args.text.now.items) ∙ ap (λ t. c.args.text.now.items ++ t) (came_none members c.args.event.now c.in-CameTo.place c.args.told c.in-CameTo.is past)

pub returns-else-place-len : goal.returns-else-place-len
returns-else-place-len g c = on_ok_weaker c.push_came.result
    (λ told members stands answers collided.
    let count = c.len.ensures.count (bus_after members c.args.event.now) stands in
    let same = length-map members (λ n. after_events (events_for members c.args.event.now n) n) in
    let within : c.in-CameTo.place < length members = omega (arith, c.if-place-len.false, count, same) in
    let here = at_place members c.in-CameTo.place within in
    told ∙ ap (λ t. c.args.text.now.items ++ t)
    (came_some members c.args.event.now c.in-CameTo.place here.it c.args.told _ c.in-CameTo.is here.at (c.came_to.ensures members here.it stands answers here.at)))
    c.push_came.ensures
