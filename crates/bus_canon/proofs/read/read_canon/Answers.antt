use Rattle.std.proofs.Common.{◌∙◌, ap, refl, sym, arith}
use Rattle.std.proofs.lemmas.Bool.Decides.{nat_tests}
use Rattle.std.proofs.lemmas.List.{nil_from_length}
use Rattle.line_format.specs.Reading.{read}
use Rattle.line_format.specs.Views.{spot}
use Rattle.line_format.proofs.AnswerLaws.{read_whole, read_more, read_err}
use Rattle.bus_canon.specs.Canon.{is_read, canon}
use Rattle.bus_canon.proofs.CanonLaws.{canon_sound}
use Rattle.bus_canon.proofs.read.read_canon.Goals as goal

pub returns-then-is_empty-clause-text : goal.returns-then-is_empty-clause-text
returns-then-is_empty-clause-text c =
    read_whole (canon is_read) c.args.bytes.now c.in-Ok.found.0 (spot c.in-Ok.found.1) (ap (read (canon is_read)) (sym c.of.ensures) ∙ c.in-Ok.ensures)
    (nil_from_length c.in-Ok.found.1.rest.now (grind (arith, nat_tests, c.if-is_empty.ensures)))

pub returns-else-is_empty-clause-refused : goal.returns-else-is_empty-clause-refused
returns-else-is_empty-clause-refused c =
    read_more (canon is_read) c.args.bytes.now c.in-Ok.found.0 (spot c.in-Ok.found.1) (ap (read (canon is_read)) (sym c.of.ensures) ∙ c.in-Ok.ensures) (grind (arith, nat_tests, c.if-is_empty.ensures))

pub returns-in-Err-clause-refused : goal.returns-in-Err-clause-refused
returns-in-Err-clause-refused c = read_err (canon is_read) (canon_sound is_read refl) c.args.bytes.now c.in-Err.wrong.line (ap (read (canon is_read)) (sym c.of.ensures) ∙ c.in-Err.ensures)
