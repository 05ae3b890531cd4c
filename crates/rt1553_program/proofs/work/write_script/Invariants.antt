use Rattle.std.proofs.Common.{take}
use Rattle.std.specs.Io.KnownBytes.{Appends}
use Rattle.script_lines.specs.EventLine.{script_text}
use Rattle.rt1553_program.proofs.work.write_script.Given as goal

abbrev pub invariant-loop-event : goal.invariant-loop-event
invariant-loop-event g l = Appends (g.W.Sink.written l.fn.writer) (g.W.Sink.written l.writer) (script_text (take l.event-index l.event-items))
