use Rattle.std.proofs.Common.{◌∙◌, ap, ◌||◌, ◌==◌, arith}
use Rattle.bus_profile.proofs.Bits.{has_bit-set, with_next, with_last}
use Rattle.bus_profile.proofs.ranges.with_range.Goals as goal

pub loop-bit-preserved : goal.loop-bit-preserved
loop-bit-preserved c i l =
    has_bit-set c.loop-bit.wider c.loop-bit.bit i (omega arith) ∙ ap (λ b. b || (i == c.loop-bit.bit)) (c.loop-bit.invariant i l) ∙ with_next _ c.args.first c.loop-bit.bit i (omega arith)

pub returns : goal.returns
returns c i l = c.loop-bit.invariant i l ∙ with_last _ c.args.first c.loop-bit.bit c.args.last i (omega arith)
