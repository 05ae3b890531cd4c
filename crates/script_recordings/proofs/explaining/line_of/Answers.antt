use Rattle.std.proofs.Common.{arith}
use Rattle.bus_terminal.specs.Answer.{shown_word}
use Rattle.script_lines.proofs.TranscriptLaws.{sent_length}
use Rattle.script_recordings.proofs.explaining.line_of.Goals as goal

pub write_answer-line-requires : goal.write_answer-line-requires
write_answer-line-requires c = omega (arith, sent_length (shown_word c.in-Some.sent))
