use Rattle.std.proofs.Common.{◌+◌, ◌++◌, List, ℕ, drop}
use Rattle.line_format.specs.Format.{Spells}
use Rattle.line_format.specs.Writing.{Adds}
use Rattle.bus_canon.specs.Canon.{blocks}
use Rattle.bus_canon.proofs.blocks.put_blocks.Given as goal

-- whatever spells the blocks that are left completes them all
abbrev pub invariant-loop-index : goal.invariant-loop-index
invariant-loop-index l = (tail : List ℕ) → Spells (blocks (l.index + 1) (drop l.index l.masks)) (drop l.index l.words) tail → Adds (blocks 1 l.masks) l.words l.fn.out.items (l.out.items ++ tail)
