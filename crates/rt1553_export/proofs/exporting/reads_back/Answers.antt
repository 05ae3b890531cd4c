use Rattle.std.proofs.Common.{string_bytes, subst, ◌∙◌}
use Rattle.bus_legal.specs.Parts.{Parts}
use Rattle.rt1553.specs.Load.{Reaches}
use Rattle.rt1553_import.specs.Import.{IsImported}
use Rattle.rt1553_export.proofs.TableLaws.{imported_of}
use Rattle.rt1553_export.proofs.exporting.reads_back.Goals as goal

pub returns-in-Ok-load : goal.returns-in-Ok-load
returns-in-Ok-load c =
    let profile = string_bytes c.in-Ok.imported.profile in
    let back : Parts = c.in-Ok-load.back in
    let imported : IsImported c.args.table.now profile = subst (λ t. IsImported t profile) c.as_bytes.ensures.value c.in-Ok.ensures.imported in
    let reaches : Reaches profile back = subst (λ t. Reaches t back) (c.as_bytes-2.ensures.value ∙ c.as_str.ensures.value) c.in-Ok-load.ensures.ok in
    λ same. imported_of c.args.table.now profile c.args.normal.now imported (subst (Reaches profile) (c.is_same.ensures.0 same) reaches)
