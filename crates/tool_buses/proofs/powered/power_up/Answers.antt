use Rattle.std.proofs.Common.{◌≡◌, ◌+◌, suc, subst, refl, arith}
use Rattle.tool_buses.specs.Powered.{IsPowered, described_below}
use Rattle.tool_buses.proofs.SharedLaws.{are_below, ones_more}
use Rattle.tool_buses.proofs.powered.power_up.Goals as goal

pub returns-then-not-add_at-clause-shared : goal.returns-then-not-add_at-clause-shared
returns-then-not-add_at-clause-shared c =
    let a = c.loop-address.address in
    record {
      low = omega (arith, c.loop-address-test.true);
      two = c.if-not-add_at.ensures.two refl (described_below a c.args.normals.now) c.loop-address.invariant.0 (are_below a c.args.normals.now c.loop-address.invariant.1);
      first = c.loop-address.invariant.1;
    }

pub loop-address-preserved : goal.loop-address-preserved
loop-address-preserved c =
    let a = c.loop-address.address in
    let more = c.if-not-add_at.ensures.added refl (described_below a c.args.normals.now) c.loop-address.invariant.0 in
    let next : suc a ≡ a + 1 = omega arith in (
      subst (λ n. IsPowered (described_below n c.args.normals.now) c.add_at.new.bus) next more,
      λ b l. ones_more a c.args.normals.now c.add_at.new.bus c.loop-address.invariant.1 more b (omega (arith, l)),
    )
