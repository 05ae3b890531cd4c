use Rattle.script_lines.proofs.LineLaws.{four_there}
use Rattle.script_lines.proofs.usual.four_at.Goals as goal

pub returns : goal.returns
returns c = four_there c.args.bytes.now c.args.at c.requires
