use Rattle.std.proofs.Common.{◌≡◌, ◌≤◌, ◌+◌}
use Rattle.rt1553_lint.specs.Positions.{column_at}
use Rattle.rt1553_lint.proofs.lines.column_at.Given as goal

abbrev pub invariant-loop-at : goal.invariant-loop-at
invariant-loop-at l = record { counted : l.column ≡ column_at l.text l.at; small : l.column ≤ l.at + 1 }
