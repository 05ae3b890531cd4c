use Rattle.std.proofs.Common.{refl, option_map}
use Rattle.report_pages.specs.CoveragePage.{IsLegalPart}
use Rattle.rt1553_report.proofs.TextLaws.{adds, adds_on_ok, chosen}
use Rattle.report_pages.proofs.coverage.push_legal_part.Goals as goal

pub returns : goal.returns
returns c =
    let r = c.in_ok-push_legal_rows.ensures in
    chosen c.push_markup-2.result (IsLegalPart (option_map (λ n. n.now) c.args.names) c.args.legal.now) _ _ _ (r.0, r.1, refl)
    (adds_on_ok c.push_markup-2.result _ _
    (adds (adds c.in_ok-push_markup.ensures c.in_ok-push_table_head.ensures) r.2)
    c.push_markup-2.ensures)
