use Rattle.std.proofs.Common.{◌≡◌, ◌-◌, ◌==◌, ◌∙◌, not, arith, ap, sym, refl}
use Rattle.rt1553_differ.specs.inner.Alone.{alone_mask, is_had}
use Rattle.rt1553_differ.proofs.GroupLaws.{had_at, had_more, is_equal, is_other}
use Rattle.rt1553_differ.proofs.groups.is_first.Goals as goal

pub loop-t-init : goal.loop-t-init
loop-t-init c = refl

pub loop-t-preserved : goal.loop-t-preserved
loop-t-preserved c =
    had_more (λ r. alone_mask c.args.p.now c.args.q.now c.args.kind c.args.first r == alone_mask c.args.p.now c.args.q.now c.args.kind c.args.first c.args.s) c.loop-t.t c.loop-t.auto.t c.loop-t.invariant
    (is_other _ _ c.alone_at.result c.alone_at-mask.result c.alone_at.ensures c.alone_at-mask.ensures c.if-alone_at-mask.false)

pub returns-then-alone_at-mask : goal.returns-then-alone_at-mask
returns-then-alone_at-mask c =
    sym (ap not (had_at (c.args.s - 1) (λ r. alone_mask c.args.p.now c.args.q.now c.args.kind c.args.first r == alone_mask c.args.p.now c.args.q.now c.args.kind c.args.first c.args.s) c.loop-t.t c.loop-t.auto.t (omega arith)
    (is_equal _ _ c.alone_at.result c.alone_at-mask.result c.alone_at.ensures c.alone_at-mask.ensures c.if-alone_at-mask.true)))

pub returns : goal.returns
returns c =
    let at : c.loop-t.t ≡ c.args.s = omega (arith, c.loop-t.auto.t-end c.requires.low) in
    let masks = alone_mask c.args.p.now c.args.q.now c.args.kind c.args.first in
    sym (ap not (ap (λ t. is_had masks (t - 1) (masks c.args.s)) (sym at) ∙ c.loop-t.invariant))
