use Rattle.std.proofs.Common.{arith}
use Rattle.script_lines.proofs.TranscriptLaws.{small_text}
use Rattle.rt1553_tool.proofs.session.play_live_line.Goals as goal

pub write_answer-requires : goal.write_answer-requires
write_answer-requires g c = let small = small_text _ c.step.ensures.small in omega arith
