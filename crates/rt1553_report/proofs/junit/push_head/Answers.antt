use Rattle.std.proofs.Common.{codes, refl, subst}
use Rattle.rt1553_report.specs.Junit.{AreSuiteProperties, IsProperty}
use Rattle.rt1553_report.proofs.TextLaws.{adds, adds_on_ok, chosen}
use Rattle.rt1553_report.proofs.junit.push_head.Goals as goal

pub returns : goal.returns
returns c =
    let program = c.in_ok-push_property.ensures in
    let toolchain = c.in_ok-push_property-2.ensures in
    let canonical = c.in_ok-push_property-3.ensures in
    let names = c.in_ok-push_names.ensures in
    chosen c.push_markup-3.result (AreSuiteProperties c.args.head c.args.more.now) _ _ _ (
      program.0,
      toolchain.0,
      canonical.0,
      names.0,
      subst (λ v. IsProperty (codes "program") v program.0) c.as_bytes.ensures.value program.1,
      subst (λ v. IsProperty (codes "toolchain") v toolchain.0) c.as_bytes-2.ensures.value toolchain.1,
      subst (λ v. IsProperty (codes "canonical") v canonical.0) c.as_bytes-3.ensures.value canonical.1,
      names.1,
      refl,
    )
    (adds_on_ok c.push_markup-3.result _ _
    (adds (adds (adds (adds (adds c.in_ok-push_markup.ensures program.2) toolchain.2) canonical.2) names.2) c.in_ok-push_markup-2.ensures)
    c.push_markup-3.ensures)
