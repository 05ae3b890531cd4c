use Rattle.std.proofs.Common.{◌∙◌, ap, sym, Err, length}
use Rattle.line_format.specs.Views.{spot}
use Rattle.line_format.proofs.Steps.{words_here, words_none, words_not}
use Rattle.line_format.proofs.read.words_line.Goals as goal

pub returns-in_default : goal.returns-in_default
returns-in_default c = words_none c.args.name.now c.args.wanted (length c.args.to.now) (spot c.args.lines) c.in_default.ensures.value ∙ ap Err (sym c.wrong.ensures)

pub returns-then-number-wanted : goal.returns-then-number-wanted
returns-then-number-wanted c =
    words_not c.args.name.now c.args.wanted (length c.args.to.now) (spot c.args.lines) c.in-Some.number c.words_line_of.new.to c.in-Some.rest.now c.in-Some.ensures.value c.if-number-wanted.true
    ∙ ap Err (sym c.wrong-then-number-wanted.ensures)

pub returns : goal.returns
returns c =
    words_here c.args.name.now c.args.wanted (length c.args.to.now) (spot c.args.lines) _ c.in-Some.number c.words_line_of.new.to c.in-Some.rest.now c.in-Some.ensures.value c.if-number-wanted.false c.behind.ensures
