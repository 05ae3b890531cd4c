use Rattle.report_pages.specs.ResultsPage.{digest_cell}
use Rattle.rt1553_report.proofs.TextLaws.{adds, adds_on_ok}
use Rattle.report_pages.proofs.page.push_digest_cell.Goals as goal

pub returns : goal.returns
unfolding digest_cell
returns c =
    adds_on_ok c.push_markup-2.result _ _
    (adds c.in_ok-push_markup.ensures c.in_ok-push_digest.ensures)
    c.push_markup-2.ensures
