use Rattle.std.proofs.Common.{◌≡◌, ◌≤◌, ◌++◌, length, map}
use Rattle.script_lines.specs.Text.{lines_of}
use Rattle.bus_script.specs.Reading.{reading, adds}
use Rattle.drawing_boxes.specs.Refused.{events_on}
use Rattle.drawing_boxes.proofs.numbered.numbered_events.Given as goal

abbrev pub invariant-loop-rest : goal.invariant-loop-rest
invariant-loop-rest l = record {
  few : l.lines ≤ 1048576;
  numbered : events_on 0 (lines_of l.script) ≡ l.read.items ++ events_on l.lines (lines_of l.rest);
  events : reading 0 (lines_of l.script) ≡ adds (map (λ it. it.event) l.read.items) (reading l.lines (lines_of l.rest));
}

abbrev pub decreases-loop-rest : goal.decreases-loop-rest
decreases-loop-rest l = length l.rest
