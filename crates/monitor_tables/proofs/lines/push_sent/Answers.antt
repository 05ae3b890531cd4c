use Rattle.std.proofs.Common.{arith}
use Rattle.bus_terminal.specs.Answer.{shown_word}
use Rattle.script_lines.proofs.TranscriptLaws.{sent_length}
use Rattle.monitor_tables.proofs.lines.push_sent.Goals as goal

pub push_answer-requires : goal.push_answer-requires
push_answer-requires c = omega (arith, sent_length (shown_word c.args.sent))
