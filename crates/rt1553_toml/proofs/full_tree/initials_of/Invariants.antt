use Rattle.std.proofs.Common.{◌≡◌, map, take}
use Rattle.toml.specs.View.{view}
use Rattle.rt1553_toml.specs.inner.FullTree.{initial_data, from_number}
use Rattle.rt1553_toml.proofs.full_tree.initials_of.Given as goal

abbrev pub invariant-loop-index : goal.invariant-loop-index
invariant-loop-index l = map view l.initials.items ≡ from_number initial_data 1 (take l.index l.words)
