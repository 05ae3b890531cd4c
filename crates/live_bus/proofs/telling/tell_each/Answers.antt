use Rattle.std.proofs.Common.{◌≡◌, ◌+◌, ◌<◌, ◌≤◌, length, arith, rules}
use Rattle.std.proofs.lemmas.List.{length-map}
use Rattle.terminal_bus.specs.Members.{events_for, after_events, bus_after}
use Rattle.live_bus.specs.BusNumbers.{member_told}
use Rattle.live_bus.proofs.TellLaws.{placed, one_told, all_told}
use Rattle.live_bus.proofs.telling.tell_each.Goals as goal

pub loop-place-preserved : goal.loop-place-preserved
loop-place-preserved c =
    let fits : c.tell_place-count.result ≤ c.loop-place.place + 1 = omega (arith, c.tell_place-count.ensures.count, c.loop-place.invariant.0) in
    let long : length c.tell_place-count.new.answers ≡ 31 = search rules in (
      fits,
      long,
      λ members x stands answers. (
          let count = c.len-place-end.ensures.count (bus_after members x) stands in
          let same = length-map members (λ n. after_events (events_for members x n) n) in
          let within : c.loop-place.place < length members = omega (arith, c.loop-place-test.true, count, same) in
          let here = placed members c.loop-place.place within in
          one_told (member_told members x) members c.loop-place.place here.it _ _ _ here.rest (c.tell_place-count.ensures.told members x here.it stands answers here.at) (c.loop-place.invariant.2 members x stands answers)
          ),
    )

pub returns : goal.returns
returns c members x stands answers =
    let count = c.len-place-end.ensures.count (bus_after members x) stands in
    let same = length-map members (λ n. after_events (events_for members x n) n) in
    let past : length members ≤ c.loop-place.place = omega (arith, c.loop-place-test.false, count, same) in
    all_told (member_told members x) members c.loop-place.place _ _ past (c.loop-place.invariant.2 members x stands answers)
