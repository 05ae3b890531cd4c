use Rattle.std.proofs.Common.{◌∙◌, ap, sym, Err}
use Rattle.line_format.specs.Views.{spot}
use Rattle.line_format.proofs.Steps.{numbered_here, numbered_none, numbered_not}
use Rattle.line_format.proofs.read.numbered_line.Goals as goal

pub returns-in_default : goal.returns-in_default
returns-in_default c = numbered_none c.args.name.now c.args.wanted (spot c.args.lines) c.in_default.ensures.value ∙ ap Err (sym c.wrong.ensures)

pub returns-then-number-wanted : goal.returns-then-number-wanted
returns-then-number-wanted c =
    numbered_not c.args.name.now c.args.wanted (spot c.args.lines) c.in-Some.number c.in-Some.bits c.in-Some.rest.now c.in-Some.ensures.value c.if-number-wanted.true
    ∙ ap Err (sym c.wrong-then-number-wanted.ensures)

pub returns : goal.returns
returns c =
    numbered_here c.args.name.now c.args.wanted (spot c.args.lines) _ c.in-Some.number c.in-Some.bits c.in-Some.rest.now c.in-Some.ensures.value c.if-number-wanted.false c.behind.ensures
