use Rattle.std.proofs.Common.{arith}
use Rattle.bus_terminal.specs.Answer.{shown_answer}
use Rattle.script_lines.proofs.TranscriptLaws.{small_text}
use Rattle.rt1553_verify.proofs.verifying.compare_answer.Goals as goal

pub write_answer-came-requires : goal.write_answer-came-requires
write_answer-came-requires g c = let small = small_text (shown_answer c.step.result) c.step.ensures.small in omega arith
