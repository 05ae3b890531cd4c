use Rattle.std.proofs.Common.{◌≡◌, ◌++◌, drop}
use Rattle.script_lines.specs.EventLine.{script_text}
use Rattle.tool_scripts.proofs.results.script_of.Given as goal

abbrev pub invariant-loop-event : goal.invariant-loop-event
invariant-loop-event l = l.text.items ++ script_text (drop l.event-index l.events) ≡ script_text l.events
