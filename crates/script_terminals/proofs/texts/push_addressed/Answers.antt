use Rattle.std.proofs.Common.{arith}
use Rattle.script_lines.proofs.TranscriptLaws.{small_text}
use Rattle.script_terminals.proofs.texts.push_addressed.Goals as goal

pub write_answer-line-requires : goal.write_answer-line-requires
write_answer-line-requires c = let small = small_text _ c.requires in omega arith
