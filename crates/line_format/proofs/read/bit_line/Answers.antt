use Rattle.std.proofs.Common.{◌∙◌, ap, sym, Err}
use Rattle.line_format.specs.Views.{spot}
use Rattle.line_format.proofs.Steps.{bit_here, bit_none}
use Rattle.line_format.proofs.read.bit_line.Goals as goal

pub returns-in_default : goal.returns-in_default
returns-in_default c = bit_none c.args.name.now (spot c.args.lines) c.in_default.ensures.value ∙ ap Err (sym c.wrong.ensures)

pub returns : goal.returns
returns c = bit_here c.args.name.now (spot c.args.lines) _ c.in-Some.number c.in-Some.rest.now c.in-Some.ensures.value c.behind.ensures
