use Rattle.std.proofs.Common.{◌+◌, ◌-◌, ◌++◌, List, ℕ, drop}
use Rattle.line_format.specs.Format.{Spells}
use Rattle.line_format.specs.Writing.{Adds}
use Rattle.bus_canon.specs.Canon.{masks}
use Rattle.bus_canon.proofs.cell_lines.put_masks.Given as goal

-- whatever spells the masks that are left completes them all
abbrev pub invariant-loop-index : goal.invariant-loop-index
invariant-loop-index l = (tail : List ℕ) → Spells (masks l.name (l.index + 1) (30 - l.index)) (drop l.index l.table) tail → Adds (masks l.name 1 30) l.table l.fn.out.items (l.out.items ++ tail)
