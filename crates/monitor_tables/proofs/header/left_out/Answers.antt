use Rattle.std.proofs.Common.{◌∙◌, sym, ap}
use Rattle.csv.specs.Records.{fields_of}
use Rattle.monitor_tables.specs.Header.{is_left_out}
use Rattle.monitor_tables.proofs.HeaderLaws.{left-told, left-untold}
use Rattle.monitor_tables.proofs.header.left_out.Goals as goal
use Rattle.monitor_tables.proofs.header.left_out.Goals.{then-is_left_out+in_ok-left_out_column+in_ok-push, else-is_left_out}

pub fields-preserved : goal.fields-preserved
fields-preserved c =
    let fields = fields_of c.args.header.now in
    let out = ap (is_left_out c.args.layout.now) (sym c.field_of.ensures) ∙ sym c.is_left_out.ensures in
    elim c.if-is_left_out.branch [
      | then-is_left_out+in_ok-left_out_column+in_ok-push w ↦ left-told c.args.layout.now fields c.args.line c.fields.field c.fields.columns.items _ _ (out ∙ w.if-is_left_out.true) c.fields.invariant w.in_ok-left_out_column.ensures (ap (λ v. v.items) w.columns-is ∙ w.in_ok-push.ensures.items)
      | else-is_left_out w ↦ left-untold c.args.layout.now fields c.args.line c.fields.field c.fields.columns.items _ (out ∙ w.if-is_left_out.false) c.fields.invariant (ap (λ v. v.items) w.columns-is)
    ]
