use Rattle.std.proofs.Common.{rules}
use Rattle.tool_scripts.proofs.draw.draw_file.Goals as goal

pub returns-in-Ok : goal.returns-in-Ok
returns-in-Ok g c = (c.in_ok-script.ensures.0, c.in_ok-script.script, c.in_ok-script.ensures.1, search rules)
