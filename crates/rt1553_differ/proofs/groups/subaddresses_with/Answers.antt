use Rattle.std.proofs.Common.{◌==◌, ◌∙◌, ◌&&◌, ◌||◌, ◌-◌, ap}
use Rattle.bus_word.specs.Mask.{has_bit}
use Rattle.rt1553_differ.specs.inner.Alone.{alone_mask}
use Rattle.rt1553_differ.proofs.GroupLaws.{none_set, one_more, all_set}
use Rattle.rt1553_differ.proofs.groups.subaddresses_with.Goals as goal

pub loop-s-init : goal.loop-s-init
loop-s-init c = λ t low high. none_set t _ low

pub loop-s-preserved : goal.loop-s-preserved
loop-s-preserved c = λ t low high.
    one_more t c.loop-s.s (λ r. c.args.mask == alone_mask c.args.p.now c.args.q.now c.args.kind c.args.first r) _ _ (c.loop-s.invariant t low high)
    (c.with_subaddress-bits.ensures t low ∙ ap (λ m. ((c.args.mask == m) && (t == c.loop-s.s)) || has_bit c.loop-s.bits (t - 1)) c.alone_at.ensures)

pub returns : goal.returns
returns c = λ t low high. c.loop-s.invariant t low high ∙ all_set t _ high c.loop-s.s c.loop-s-test.false
