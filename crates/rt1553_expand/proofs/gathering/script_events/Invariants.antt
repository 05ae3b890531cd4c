use Rattle.std.proofs.Common.{◌≡◌, ◌≤◌, length}
use Rattle.script_lines.specs.Text.{lines_of}
use Rattle.bus_script.specs.Reading.{reading, adds}
use Rattle.rt1553_expand.proofs.gathering.script_events.Given as goal

abbrev pub invariant-loop-rest : goal.invariant-loop-rest
invariant-loop-rest l = (reading 0 (lines_of l.script) ≡ adds l.events.items (reading l.before (lines_of l.rest))) × (l.before ≤ 1048576)

abbrev pub decreases-loop-rest : goal.decreases-loop-rest
decreases-loop-rest l = length l.rest
