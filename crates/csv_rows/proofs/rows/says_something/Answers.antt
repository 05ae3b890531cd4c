use Rattle.std.proofs.Common.{arith, sym}
use Rattle.csv.specs.Records.{fields_of}
use Rattle.csv_rows.specs.Rows.{says_something}
use Rattle.csv_rows.proofs.RowLaws.{said_found, said_passed}
use Rattle.csv_rows.proofs.rows.says_something.Goals as goal

pub returns-then-has_text : goal.returns-then-has_text
returns-then-has_text c =
    said_found (fields_of c.args.fields.now) c.loop-place.place (says_something (fields_of c.args.fields.now)) (omega (arith, c.loop-place-test.true, c.len-place-end.ensures)) (sym c.if-has_text.ensures) c.loop-place.invariant

pub loop-place-preserved : goal.loop-place-preserved
loop-place-preserved c =
    said_passed (fields_of c.args.fields.now) c.loop-place.place (says_something (fields_of c.args.fields.now)) (omega (arith, c.loop-place-test.true, c.len-place-end.ensures)) (sym c.if-has_text.ensures) c.loop-place.invariant
