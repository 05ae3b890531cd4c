use Rattle.std.proofs.Common.{◌≡◌, ◌++◌, map, take}
use Rattle.toml.specs.View.{view}
use Rattle.rt1553_toml.specs.inner.FullTree.{rule_data, from_number}
use Rattle.rt1553_toml.proofs.full_tree.push_rules.Given as goal

abbrev pub invariant-loop-index : goal.invariant-loop-index
invariant-loop-index l = map view l.rules.items ≡ map view l.fn.rules.items ++ from_number (rule_data l.to l.direction) 1 (take l.index l.masks)
