use Rattle.std.proofs.Common.{◌<◌, ◌≤◌, ◌∙◌, length, sym, arith}
use Rattle.terminal_schedules.proofs.BusLaw.{member_there, left_here, left_later, left_nowhere}
use Rattle.terminal_schedules.proofs.left.first_left.Goals as goal

pub returns-then-is_some : goal.returns-then-is_some
returns-then-is_some g c members stands =
    let within : c.loop-place.place < length members = omega (arith, c.loop-place-test.true, c.len-place-end.ensures.count members stands) in
    let there = member_there members c.loop-place.place within in
    left_here members c.loop-place.place there c.left_at-left.result (c.left_at-left.ensures members there.it stands there.at) (sym c.is_some.ensures ∙ c.if-is_some.true) (c.loop-place.invariant members stands)

pub loop-place-preserved : goal.loop-place-preserved
loop-place-preserved g c members stands =
    let within : c.loop-place.place < length members = omega (arith, c.loop-place-test.true, c.len-place-end.ensures.count members stands) in
    let there = member_there members c.loop-place.place within in
    left_later members c.loop-place.place there c.left_at-left.result (c.left_at-left.ensures members there.it stands there.at) (sym c.is_some.ensures ∙ c.if-is_some.false) (c.loop-place.invariant members stands)

pub returns : goal.returns
returns g c members stands =
    let past : length members ≤ c.loop-place.place = omega (arith, c.loop-place-test.false, c.len-place-end.ensures.count members stands) in
    left_nowhere members c.loop-place.place past (c.loop-place.invariant members stands)
