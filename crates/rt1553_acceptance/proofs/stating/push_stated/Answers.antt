use Rattle.std.proofs.Common.{arith}
use Rattle.bus_terminal.specs.Answer.{shown_answer}
use Rattle.script_lines.proofs.TranscriptLaws.{small_text}
use Rattle.rt1553_acceptance.proofs.stating.push_stated.Goals as goal

pub write_answer-requires : goal.write_answer-requires
write_answer-requires c = omega (arith, small_text (shown_answer c.args.answer.now) c.requires.small)
