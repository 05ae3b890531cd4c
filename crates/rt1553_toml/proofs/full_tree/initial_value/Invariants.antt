use Rattle.std.proofs.Common.{◌≡◌, map, take}
use Rattle.toml.specs.View.{view}
use Rattle.rt1553_toml.specs.inner.FullTree.{word_data}
use Rattle.rt1553_toml.proofs.full_tree.initial_value.Given as goal

abbrev pub invariant-loop-word : goal.invariant-loop-word
invariant-loop-word l = map view l.words.items ≡ map word_data (take l.word-index l.row)
