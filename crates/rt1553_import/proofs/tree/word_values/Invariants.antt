use Rattle.std.proofs.Common.{◌≡◌, map, take}
use Rattle.toml.specs.View.{view}
use Rattle.rt1553_import.specs.Tree.{word_value}
use Rattle.rt1553_import.proofs.tree.word_values.Given as goal

abbrev pub invariant-loop-word : goal.invariant-loop-word
invariant-loop-word l = map view l.values.items ≡ map word_value (take l.word-index l.word-items)
