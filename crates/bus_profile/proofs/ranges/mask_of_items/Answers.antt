use Rattle.std.proofs.Common.{true, sym, ◌∙◌, option_map, arith}
use Rattle.bus_profile.proofs.RangesRest.{finish-start, finish-none, finish-within, finish-outside, finish-end}
use Rattle.bus_profile.proofs.ranges.mask_of_items.Goals as goal

pub loop-rest-init : goal.loop-rest-init
loop-rest-init c = (omega arith, rw c.as_bytes.ensures.value (finish-start c.args.low c.args.high c.args.text.now))

pub returns-in_default-item_of : goal.returns-in_default-item_of
returns-in_default-item_of c =
    let so_far = rw c.in-Some.is at c.loop-rest.invariant.1 in
    sym (finish-none c.args.low c.args.high c.loop-rest.within c.loop-rest.mask _ _ (option_map (λ t. t.now) c.first_part.result.1) c.first_part.ensures.parts (sym (c.in_default-item_of.ensures))) ∙ so_far

pub loop-rest-preserved-then-is_within : goal.loop-rest-preserved-then-is_within
loop-rest-preserved-then-is_within c =
    let so_far = rw c.in-Some.is at c.loop-rest.invariant.1 in
    let bits = rw (c.from.ensures, c.from-then-is_within.ensures) at c.with_range-mask.ensures in
    (omega arith, sym (finish-within c.args.low c.args.high c.loop-rest.within c.loop-rest.mask c.with_range-mask.result _ _ _ c.in-Some-item_of.item c.first_part.ensures.parts (sym (c.in-Some-item_of.ensures)) (sym (c.if-is_within.ensures)) bits) ∙ so_far)

pub loop-rest-preserved : goal.loop-rest-preserved
loop-rest-preserved c =
    let so_far = rw c.in-Some.is at c.loop-rest.invariant.1 in
    (omega arith, sym (finish-outside c.args.low c.args.high c.loop-rest.within c.loop-rest.mask _ _ _ c.in-Some-item_of.item c.first_part.ensures.parts (sym (c.in-Some-item_of.ensures)) (sym (c.if-is_within.ensures))) ∙ so_far)

pub returns-then-within : goal.returns-then-within
returns-then-within c =
    let so_far = rw (c.in_default.is, c.if-within.true) at c.loop-rest.invariant.1 in
    sym (finish-end c.args.low c.args.high true c.loop-rest.mask (omega arith)) ∙ so_far
