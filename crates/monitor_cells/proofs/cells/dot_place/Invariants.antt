use Rattle.std.proofs.Common.{◌≡◌, ◌+◌, not, drop}
use Rattle.std.specs.List.{prefix_len, position_or_len}
use Rattle.monitor_cells.specs.Cells.{is_dot}
use Rattle.monitor_cells.proofs.cells.dot_place.Given as goal

abbrev pub invariant-loop-place : goal.invariant-loop-place
invariant-loop-place l = l.place + prefix_len (λ b. not (is_dot b)) (drop l.place l.text) ≡ position_or_len is_dot l.text
