use Rattle.std.proofs.Common.{◌<◌, ◌≤◌, length, arith}
use Rattle.std.proofs.lemmas.List.{length-map}
use Rattle.terminal_bus.specs.Members.{events_for, after_events, bus_after}
use Rattle.script_terminals.specs.BusTexts.{member_text}
use Rattle.script_terminals.proofs.TextLaws.{at_place, each_on, each_all}
use Rattle.script_terminals.proofs.texts.push_each.Goals as goal

pub loop-place-preserved : goal.loop-place-preserved
loop-place-preserved g c members x stands answers =
    let count = c.len-place-end.ensures.count (bus_after members x) stands in
    let same = length-map members (λ n. after_events (events_for members x n) n) in
    let within : c.loop-place.place < length members = omega (arith, c.loop-place-test.true, count, same) in
    let here = at_place members c.loop-place.place within in
    each_on (member_text members x) members c.loop-place.place here.it _ _ _ here.rest (c.in_ok-push_at.ensures members x here.it stands answers here.at) (c.loop-place.invariant members x stands answers)

pub returns : goal.returns
returns g c members x stands answers =
    let count = c.len-place-end.ensures.count (bus_after members x) stands in
    let same = length-map members (λ n. after_events (events_for members x n) n) in
    let past : length members ≤ c.loop-place.place = omega (arith, c.loop-place-test.false, count, same) in
    each_all (member_text members x) members c.loop-place.place _ _ past (c.loop-place.invariant members x stands answers)
