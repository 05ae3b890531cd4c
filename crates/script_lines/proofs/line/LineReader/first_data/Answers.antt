use Rattle.script_lines.proofs.LineLaws.{first_data_word}
use Rattle.script_lines.proofs.line.LineReader.first_data.Goals as goal

pub returns-then-is_word_on-clause-says : goal.returns-then-is_word_on-clause-says
returns-then-is_word_on-clause-says c = first_data_word c.args.bytes.now c.args.bus c.small.result (c.is_word_on.ensures c.if-is_word_on.true) c.small.ensures.digits
