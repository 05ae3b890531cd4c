use Rattle.std.proofs.Common.{◌≡◌, ◌≤◌, ◌*◌, take, flat_map, length}
use Rattle.script_lines.specs.EventLine.{event_line}
use Rattle.rt1553_live.proofs.room.event_lines.Given as goal

abbrev pub invariant-loop-event : goal.invariant-loop-event
invariant-loop-event l = (l.lines.items ≡ flat_map event_line (take l.event-index l.script)) × (length l.lines.items ≤ 65 * l.event-index)
