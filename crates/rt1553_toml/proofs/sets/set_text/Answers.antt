use Rattle.std.proofs.Common.{arith, subst, string_bytes, sym, ◌≡◌, ◌∙◌, ◌-◌, ap}
use Rattle.rt1553_toml.specs.Sets.{numbers_text}
use Rattle.rt1553_toml.proofs.TableLaws.{SoFar, so_far_start, so_far_skip, so_far_step, so_far_end}
use Rattle.rt1553_toml.proofs.sets.set_text.Goals as goal

pub loop-left-init : goal.loop-left-init
loop-left-init c = record { within = omega arith; first = c.requires; so_far = so_far_start c.args.first c.said_set-numbers.result _ c.new-text.ensures.bytes }

pub loop-left-preserved-then-has_bit : goal.loop-left-preserved-then-has_bit
loop-left-preserved-then-has_bit c =
    let i = c.loop-left.invariant in
    record {
      within = omega (arith, i.within);
      first = c.requires;
      so_far = so_far_step c.args.first c.said_set-numbers.result c.loop-left.left (c.loop-left.left - 1) c.loop-left.started _ _ (omega (arith, c.loop-left-test.true)) (sym c.if-has_bit.ensures) i.so_far c.in_ok-push_item.ensures;
    }

pub loop-left-preserved : goal.loop-left-preserved
loop-left-preserved c =
    let i = c.loop-left.invariant in
    record {
      within = omega (arith, i.within);
      first = c.requires;
      so_far = so_far_skip c.args.first c.said_set-numbers.result c.loop-left.left (c.loop-left.left - 1) c.loop-left.started _ (omega (arith, c.loop-left-test.true)) (sym c.if-has_bit.ensures) i.so_far;
    }

pub returns : goal.returns
returns c =
    let i = c.loop-left.invariant in
    let none : c.loop-left.left ≡ 0 = omega (arith, c.loop-left-test.false) in
    so_far_end c.args.first c.said_set-numbers.result c.loop-left.started _ (subst (λ l. SoFar c.args.first c.said_set-numbers.result l c.loop-left.started (string_bytes c.loop-left.text)) none i.so_far)
    ∙ ap (numbers_text c.args.first) c.said_set-numbers.ensures
