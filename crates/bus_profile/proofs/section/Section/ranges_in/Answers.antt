use Rattle.std.proofs.Common.{◌+◌, ◌-◌, ◌<◌, arith}
use Rattle.std.proofs.lemmas.Nat.{pow_below}
use Rattle.bus_profile.proofs.section.Section.ranges_in.Goals as goal

pub returns-in-Some-clause-small : goal.returns-in-Some-clause-small
returns-in-Some-clause-small c =
    let below : c.in-Some.n - c.from-in-Some.result < c.args.high - c.args.low + 1 = omega (arith, c.in-Some.ensures.range) in
    omega (arith, pow_below (c.in-Some.n - c.from-in-Some.result) (c.args.high - c.args.low + 1) below)
