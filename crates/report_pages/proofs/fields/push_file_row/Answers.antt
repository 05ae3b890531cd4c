use Rattle.std.proofs.Common.{refl, subst}
use Rattle.report_pages.specs.CoveragePage.{IsFileRow}
use Rattle.rt1553_report.specs.Shown.{StandsFor}
use Rattle.rt1553_report.proofs.TextLaws.{adds, adds_on_ok, chosen}
use Rattle.report_pages.proofs.fields.push_file_row.Goals as goal

pub returns : goal.returns
returns c =
    let s = c.in_ok-push_shown.ensures in
    chosen c.push_markup-4.result (IsFileRow c.args.what.now c.args.file.now) _ _ _ (s.0, subst (λ bytes. StandsFor bytes s.0) c.as_bytes.ensures.value s.1, refl)
    (adds_on_ok c.push_markup-4.result _ _
    (adds (adds (adds c.in_ok-push_markup.ensures c.in_ok-push_markup-2.ensures) c.in_ok-push_markup-3.ensures) s.2)
    c.push_markup-4.ensures)
