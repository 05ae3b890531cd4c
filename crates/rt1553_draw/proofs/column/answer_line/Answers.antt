use Rattle.std.proofs.Common.{arith}
use Rattle.bus_terminal.specs.Answer.{shown_answer}
use Rattle.script_lines.proofs.TranscriptLaws.{small_text}
use Rattle.rt1553_draw.proofs.column.answer_line.Goals as goal

pub write_answer-text-requires : goal.write_answer-text-requires
write_answer-text-requires c = let small = small_text (shown_answer c.args.answer.now) c.requires in omega arith
