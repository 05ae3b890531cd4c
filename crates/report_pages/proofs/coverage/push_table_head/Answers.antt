use Rattle.report_pages.specs.CoveragePage.{table_head}
use Rattle.rt1553_report.proofs.TextLaws.{adds, adds_on_ok}
use Rattle.report_pages.proofs.coverage.push_table_head.Goals as goal

pub returns : goal.returns
unfolding table_head
returns c =
    adds_on_ok c.push_markup-3.result _ _
    (adds (adds c.in_ok-push_markup.ensures c.in_ok-push_names_head.ensures) c.in_ok-push_markup-2.ensures)
    c.push_markup-3.ensures
