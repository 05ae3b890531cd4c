use Rattle.std.proofs.Common.{length, ◌-◌}
use Rattle.csv_rows.proofs.rows.moved.Given as goal

abbrev pub decreases-loop-cursor : goal.decreases-loop-cursor
decreases-loop-cursor l = length l.text - l.cursor.at
