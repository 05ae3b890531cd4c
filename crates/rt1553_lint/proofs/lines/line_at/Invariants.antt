use Rattle.std.proofs.Common.{◌≡◌, ◌≤◌, ◌+◌}
use Rattle.rt1553_lint.specs.Positions.{line_of_place}
use Rattle.rt1553_lint.proofs.lines.line_at.Given as goal

abbrev pub invariant-loop-at : goal.invariant-loop-at
invariant-loop-at l = record { counted : l.line ≡ line_of_place l.text l.at; small : l.line ≤ l.at + 1 }
