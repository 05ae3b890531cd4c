use Rattle.std.proofs.Common.{◌∙◌, ap, sym, Err}
use Rattle.line_format.specs.Kinds.{field_of}
use Rattle.line_format.specs.Views.{spot}
use Rattle.line_format.proofs.Steps.{number_here, number_none, number_not}
use Rattle.line_format.proofs.read.number_line.Goals as goal

pub returns-in_default-clause-answer : goal.returns-in_default-clause-answer
returns-in_default-clause-answer g c allowed is = number_none c.args.name.now (field_of c.args.kind) allowed (spot c.args.lines) c.in_default.ensures.value ∙ ap Err (sym c.wrong.ensures)

pub returns-then-not-is_allowed-clause-answer : goal.returns-then-not-is_allowed-clause-answer
returns-then-not-is_allowed-clause-answer g c allowed is =
    number_not c.args.name.now (field_of c.args.kind) allowed (spot c.args.lines) c.in-Some.number c.in-Some.rest.now c.in-Some.ensures.value
    (sym (is c.in-Some.number c.is_allowed.result c.in-Some.ensures.small c.is_allowed.ensures) ∙ c.if-not-is_allowed.true)
    ∙ ap Err (sym c.wrong-then-not-is_allowed.ensures)

pub returns-clause-answer : goal.returns-clause-answer
returns-clause-answer g c allowed is =
    number_here c.args.name.now (field_of c.args.kind) allowed (spot c.args.lines) _ c.in-Some.number c.in-Some.rest.now c.in-Some.ensures.value
    (sym (is c.in-Some.number c.is_allowed.result c.in-Some.ensures.small c.is_allowed.ensures) ∙ c.if-not-is_allowed.false) c.behind.ensures
