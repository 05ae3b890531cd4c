use Rattle.std.proofs.Common.{ap, ◌∙◌}
use Rattle.script_lines.specs.Line.{meaning}
use Rattle.script_lines.proofs.RoundTrip.{event_read}
use Rattle.script_lines.proofs.event_line.write_event.Goals as goal

pub returns-clause-read : goal.returns-clause-read
returns-clause-read c = ap meaning c.event_text.ensures.text ∙ event_read c.args.event.now c.event_text.ensures.proper
