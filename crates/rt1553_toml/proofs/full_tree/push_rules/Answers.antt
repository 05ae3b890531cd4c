use Rattle.std.proofs.Common.{◌+◌, ◌∙◌, ap, map, get_or, arith}
use Rattle.toml.specs.View.{view}
use Rattle.rt1553_toml.specs.inner.FullTree.{rule_data}
use Rattle.rt1553_toml.proofs.TableLaws.{grown}
use Rattle.rt1553_toml.proofs.full_tree.push_rules.Goals as goal

pub loop-index-preserved : goal.loop-index-preserved
loop-index-preserved c =
    let f = rule_data c.args.to.now c.args.direction.now in
    ap (map view) c.in_ok-push.ensures.items
    ∙ grown f c.args.masks.now c.loop-index.index 0 (map view c.args.rules.now.items) c.loop-index.rules.items _ (omega (arith, c.told-masks, c.loop-index-test.true)) c.loop-index.invariant
    (c.in_ok-rule_value.ensures ∙ ap (λ i. f (c.loop-index.index + 1) (get_or c.args.masks.now i 0)) c.from.ensures)
