use Rattle.std.proofs.Common.{◌<◌, ◌≤◌, ◌+◌, length, arith, sym, ◌∙◌}
use Rattle.csv.specs.Records.{fields_of}
use Rattle.monitor_tables.proofs.ReadLaws.{text-step}
use Rattle.monitor_tables.proofs.records.is_some_record.Goals as goal

pub returns-then-is_some_field : goal.returns-then-is_some_field
returns-then-is_some_field c =
    let low : c.fields.field < length (fields_of c.args.row.now) = omega (arith, c.fields-test.true, c.len-field-end.ensures) in
    sym (text-step (fields_of c.args.row.now) c.fields.field _ low c.fields.invariant.0 (sym c.is_some_field.ensures ∙ c.if-is_some_field.true))

pub fields-preserved : goal.fields-preserved
fields-preserved c =
    let low : c.fields.field < length (fields_of c.args.row.now) = omega (arith, c.fields-test.true, c.len-field-end.ensures) in
    let more : c.fields.field + 1 ≤ length (fields_of c.args.row.now) = omega (arith, low) in
    (text-step (fields_of c.args.row.now) c.fields.field _ low c.fields.invariant.0 (sym c.is_some_field.ensures ∙ c.if-is_some_field.false), more)
