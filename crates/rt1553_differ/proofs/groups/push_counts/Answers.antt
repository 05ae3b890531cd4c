use Rattle.std.proofs.Common.{◌≡◌, arith}
use Rattle.rt1553_differ.specs.inner.Alone.{alone_mask}
use Rattle.rt1553_differ.proofs.GroupLaws.{none_before, both_sides, all_said}
use Rattle.rt1553_differ.proofs.groups.push_counts.Goals as goal

pub loop-s-init : goal.loop-s-init
loop-s-init c = none_before c.args.kind (alone_mask c.args.p.now c.args.q.now c.args.kind) _

pub loop-s-preserved : goal.loop-s-preserved
loop-s-preserved c =
    both_sides c.args.kind (alone_mask c.args.p.now c.args.q.now c.args.kind) c.loop-s.s _ _ _ _ c.loop-s.auto.s c.loop-s.invariant c.in_ok-push_side.ensures c.in_ok-push_side-2.ensures

pub returns : goal.returns
returns c =
    let at : c.loop-s.s ≡ 31 = omega (arith, c.loop-s.auto.s-end) in
    all_said c.args.p.now c.args.q.now c.args.kind c.loop-s.s _ _ c.setup.ensures.normal c.setup-2.ensures.normal at c.loop-s.invariant
