use Rattle.std.proofs.Common.{◌∙◌, ap, sym, Err, true, refl}
use Rattle.line_format.specs.Shapes.{word}
use Rattle.line_format.specs.Views.{spot}
use Rattle.line_format.proofs.Steps.{number_here, number_none}
use Rattle.line_format.proofs.read.word_line.Goals as goal

pub returns-in_default : goal.returns-in_default
returns-in_default c = number_none c.args.name.now word (λ _. true) (spot c.args.lines) c.in_default.ensures.value ∙ ap Err (sym c.wrong.ensures)

pub returns : goal.returns
returns c = number_here c.args.name.now word (λ _. true) (spot c.args.lines) _ c.in-Some.number c.in-Some.rest.now c.in-Some.ensures.value refl c.behind.ensures
