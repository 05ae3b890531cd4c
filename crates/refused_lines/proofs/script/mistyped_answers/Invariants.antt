use Rattle.std.proofs.Common.{◌≡◌, ◌++◌, ◌+◌, ◌≤◌, length, map}
use Rattle.script_lines.specs.Text.{lines_of}
use Rattle.refused_lines.specs.Refused.{mistyped_from}
use Rattle.refused_lines.proofs.script.mistyped_answers.Given as goal

abbrev pub invariant-loop-rest : goal.invariant-loop-rest
invariant-loop-rest l = (l.number + length l.rest ≤ 1 + length l.script)
    × (mistyped_from 1 (lines_of l.script) ≡ map (λ mistyped. mistyped.line) l.found.items ++ mistyped_from l.number (lines_of l.rest))

abbrev pub decreases-loop-rest : goal.decreases-loop-rest
decreases-loop-rest l = length l.rest
