use Rattle.std.proofs.Common.{refl}
use Rattle.rt1553_report.specs.Junit.{IsProperty}
use Rattle.rt1553_report.proofs.TextLaws.{adds, adds_on_ok, chosen}
use Rattle.rt1553_report.proofs.junit.push_property.Goals as goal

pub returns : goal.returns
returns c =
    let s = c.in_ok-push_shown.ensures in
    chosen c.push_markup-4.result (IsProperty c.args.name.now c.args.value.now) _ _ _ (s.0, s.1, refl)
    (adds_on_ok c.push_markup-4.result _ _
    (adds (adds (adds c.in_ok-push_markup.ensures c.in_ok-push_markup-2.ensures) c.in_ok-push_markup-3.ensures) s.2)
    c.push_markup-4.ensures)
