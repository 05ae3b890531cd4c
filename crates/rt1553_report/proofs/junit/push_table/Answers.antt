use Rattle.std.proofs.Common.{Some, codes, refl, subst}
use Rattle.rt1553_report.specs.Junit.{AreNamesProperties, IsProperty}
use Rattle.rt1553_report.proofs.TextLaws.{adds_on_ok, chosen}
use Rattle.rt1553_report.proofs.junit.push_table.Goals as goal

pub returns : goal.returns
returns c =
    let p = c.in_ok-push_property.ensures in
    chosen c.push_digest_property.result (AreNamesProperties (Some c.args.table)) _ _ _
    (p.0, subst (λ v. IsProperty (codes "names") v p.0) c.as_bytes.ensures.value p.1, refl)
    (adds_on_ok c.push_digest_property.result _ _ p.2 c.push_digest_property.ensures)
