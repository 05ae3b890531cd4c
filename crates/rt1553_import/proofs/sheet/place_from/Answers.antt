use Rattle.std.proofs.Common.{arith, sym}
use Rattle.csv.specs.Records.{fields_of}
use Rattle.rt1553_import.specs.Columns.{place_from}
use Rattle.rt1553_import.proofs.FieldLaws.{place_found, place_passed}
use Rattle.rt1553_import.proofs.sheet.place_from.Goals as goal

pub returns-then-is_field-clause-place : goal.returns-then-is_field-clause-place
returns-then-is_field-clause-place c =
    let fields = fields_of c.args.fields.now in
    place_found c.args.text.now fields c.loop-place.place (place_from c.args.text.now c.args.start fields) (omega (arith, c.loop-place-test.true, c.len-place-end.ensures)) (sym c.if-is_field.ensures) c.loop-place.invariant

pub loop-place-preserved : goal.loop-place-preserved
loop-place-preserved c =
    let fields = fields_of c.args.fields.now in
    place_passed c.args.text.now fields c.loop-place.place (place_from c.args.text.now c.args.start fields) (omega (arith, c.loop-place-test.true, c.len-place-end.ensures)) (sym c.if-is_field.ensures) c.loop-place.invariant
