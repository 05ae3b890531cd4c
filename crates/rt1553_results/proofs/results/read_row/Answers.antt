use Rattle.std.proofs.Common.{◌∙◌, sym, ap, option_map, arith}
use Rattle.csv.specs.Records.{fields_of}
use Rattle.rt1553_results.proofs.FieldLaws.{field_there}
use Rattle.rt1553_results.proofs.results.read_row.Goals.{in_default-via-in-Some+in_default, in_default-via-in_default}
use Rattle.rt1553_results.proofs.results.read_row.Goals as goal

pub unreachable-requires : goal.unreachable-requires
unreachable-requires c =
    let fields = fields_of c.args.row.now in
    elim c.in_default.branch [
      | in_default-via-in-Some+in_default w ↦ field_there fields c.args.columns.now.reply (omega (arith, c.requires.1, c.if-len-columns.false, c.len.ensures)) (sym c.get-2.ensures.value ∙ ap (option_map (λ s. s.now)) w.in_default.is-1)
      | in_default-via-in_default w ↦ field_there fields c.args.columns.now.number (omega (arith, c.requires.0, c.if-len-columns.false, c.len.ensures)) (sym c.get.ensures.value ∙ ap (option_map (λ s. s.now)) w.in_default.is-0)
    ]
