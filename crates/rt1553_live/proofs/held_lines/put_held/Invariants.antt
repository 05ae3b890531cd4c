use Rattle.std.proofs.Common.{◌+◌, ◌-◌, ◌++◌, List, ℕ}
use Rattle.line_format.specs.Format.{Spells}
use Rattle.line_format.specs.Writing.{Adds}
use Rattle.rt1553_live.specs.State.{held_from}
use Rattle.rt1553_live.specs.Text.{held_lines}
use Rattle.rt1553_live.proofs.held_lines.put_held.Given as goal

-- whatever spells the lines that are left completes them all
abbrev pub invariant-loop-index : goal.invariant-loop-index
invariant-loop-index l = (tail : List ℕ) → Spells (held_lines (l.index + 1) (30 - l.index)) (held_from l.held (l.index + 1) (30 - l.index)) tail → Adds (held_lines 1 30) (held_from l.held 1 30) l.fn.out.items (l.out.items ++ tail)
