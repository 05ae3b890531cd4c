use Rattle.std.proofs.Common.{◌+◌, ◌∙◌, [], ap, map, get_or, arith}
use Rattle.toml.specs.View.{view}
use Rattle.rt1553_toml.specs.inner.FullTree.{initial_data}
use Rattle.rt1553_toml.proofs.TableLaws.{grown}
use Rattle.rt1553_toml.proofs.full_tree.initials_of.Goals as goal

pub loop-index-preserved : goal.loop-index-preserved
loop-index-preserved c =
    ap (map view) c.in_ok-push.ensures.items
    ∙ grown initial_data c.args.words.now c.loop-index.index [] [] c.loop-index.initials.items _ (omega (arith, c.told-words, c.loop-index-test.true)) c.loop-index.invariant
    (c.in_ok-initial_value.ensures ∙ ap (λ i. initial_data (c.loop-index.index + 1) (get_or c.args.words.now i [])) c.from.ensures)
