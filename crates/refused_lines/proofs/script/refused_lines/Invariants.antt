use Rattle.std.proofs.Common.{◌≡◌, ◌++◌, ◌+◌, ◌≤◌, length, map}
use Rattle.script_lines.specs.Text.{lines_of}
use Rattle.refused_lines.specs.Refused.{refused_from}
use Rattle.refused_lines.proofs.script.refused_lines.Given as goal

abbrev pub invariant-loop-rest : goal.invariant-loop-rest
invariant-loop-rest l = (l.number + length l.rest ≤ 1 + length l.script)
    × (refused_from 1 (lines_of l.script) ≡ map (λ refused. refused.line) l.found.items ++ refused_from l.number (lines_of l.rest))

abbrev pub decreases-loop-rest : goal.decreases-loop-rest
decreases-loop-rest l = length l.rest
