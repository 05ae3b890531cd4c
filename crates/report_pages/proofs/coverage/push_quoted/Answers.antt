use Rattle.std.proofs.Common.{Some, refl, subst}
use Rattle.report_pages.specs.CoveragePage.{IsNamed}
use Rattle.rt1553_report.specs.Shown.{StandsFor}
use Rattle.rt1553_report.proofs.TextLaws.{adds, adds_on_ok, chosen}
use Rattle.report_pages.proofs.coverage.push_quoted.Goals as goal

pub returns : goal.returns
returns c =
    let s = c.in_ok-push_shown.ensures in
    chosen c.push_markup-2.result (IsNamed (Some c.args.name.now)) _ _ _ (s.0, subst (λ bytes. StandsFor bytes s.0) c.as_bytes.ensures.value s.1, refl)
    (adds_on_ok c.push_markup-2.result _ _
    (adds c.in_ok-push_markup.ensures s.2)
    c.push_markup-2.ensures)
