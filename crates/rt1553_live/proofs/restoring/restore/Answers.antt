use Rattle.std.proofs.Common.{◌∙◌, ap, sym, arith}
use Rattle.std.proofs.lemmas.Bool.Decides.{nat_tests}
use Rattle.std.proofs.lemmas.List.{nil_from_length}
use Rattle.line_format.specs.Reading.{read}
use Rattle.line_format.specs.Views.{spot}
use Rattle.line_format.proofs.AnswerLaws.{read_whole, read_more, read_err}
use Rattle.rt1553_live.specs.State.{state_of}
use Rattle.rt1553_live.specs.Text.{saved}
use Rattle.rt1553_live.proofs.TextLaws.{saved_sound}
use Rattle.rt1553_live.proofs.restoring.restore.Goals as goal

pub returns-then-is_empty-clause-state : goal.returns-then-is_empty-clause-state
returns-then-is_empty-clause-state c =
    read_whole saved c.args.text.now (state_of c.in-Ok.found.0) (spot c.in-Ok.found.1) (ap (read saved) (sym c.of.ensures) ∙ c.in-Ok.ensures.state)
    (nil_from_length c.in-Ok.found.1.rest.now (grind (arith, nat_tests, c.if-is_empty.ensures)))

pub returns-else-is_empty-clause-refused : goal.returns-else-is_empty-clause-refused
returns-else-is_empty-clause-refused c =
    read_more saved c.args.text.now (state_of c.in-Ok.found.0) (spot c.in-Ok.found.1) (ap (read saved) (sym c.of.ensures) ∙ c.in-Ok.ensures.state) (grind (arith, nat_tests, c.if-is_empty.ensures))

pub returns-in-Err-clause-refused : goal.returns-in-Err-clause-refused
returns-in-Err-clause-refused c = read_err saved saved_sound c.args.text.now c.in-Err.wrong.line (ap (read saved) (sym c.of.ensures) ∙ c.in-Err.ensures.state)
