use Rattle.std.proofs.Common.{◌≤◌, ◌++◌, ◌∙◌, suc, length, take, refl, ap, sym, arith}
use Rattle.bus_legal.specs.Parts.{Parts}
use Rattle.tool_buses.specs.Powered.{described_at}
use Rattle.tool_buses.specs.inner.Crowded.{IsCrowded}
use Rattle.tool_buses.proofs.SharedLaws.{one_more, is_second}
use Rattle.tool_buses.proofs.powered.add_at.Goals as goal

pub returns-then-not-add_one-clause-two : goal.returns-then-not-add_one-clause-two
returns-then-not-add_one-clause-two c f Ps p below =
    let before = take c.loop-normal.normal-index c.args.normals.now in
    let crowded : IsCrowded (Ps ++ described_at c.args.address before) c.args.address c.normal-item.result = c.if-not-add_one.ensures.other refl (Ps ++ described_at c.args.address before) (c.loop-normal.invariant Ps p) in
    let some : 1 ≤ length (described_at c.args.address before) = is_second c.args.address Ps (described_at c.args.address before) c.normal-item.result below c.requires crowded in
    let more : suc (length (described_at c.args.address before)) ≤ length (described_at c.args.address c.args.normals.now) =
    one_more c.args.address c.args.normals.now c.loop-normal.normal-index c.normal-item.result c.loop-normal-test.true (ap (λ (v : Parts). v.address) (sym c.normal-item.is) ∙ crowded.here) in
    omega (arith, some, more)
