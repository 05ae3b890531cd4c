use Rattle.script_lines.proofs.DigitLaws.{digits_ascii}
use Rattle.script_lines.proofs.digits.digits_of.Goals as goal

pub returns-clause-ascii : goal.returns-clause-ascii
returns-clause-ascii c = digits_ascii c.args.word
