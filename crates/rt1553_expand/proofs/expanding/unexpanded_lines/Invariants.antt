use Rattle.std.proofs.Common.{◌≡◌, ◌++◌, ◌+◌, ◌≤◌, length, map}
use Rattle.script_lines.specs.Text.{lines_of}
use Rattle.rt1553_expand.specs.Expansion.{refusal_of, refusals_from}
use Rattle.rt1553_expand.proofs.expanding.unexpanded_lines.Given as goal

abbrev pub invariant-loop-rest : goal.invariant-loop-rest
invariant-loop-rest l = (l.number + length l.rest ≤ 1 + length l.text)
    × (refusals_from l.own 1 (lines_of l.text) ≡ map refusal_of l.found.items ++ refusals_from l.own l.number (lines_of l.rest))

abbrev pub decreases-loop-rest : goal.decreases-loop-rest
decreases-loop-rest l = length l.rest
