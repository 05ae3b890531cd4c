use Rattle.report_pages.specs.ResultsPage.{digest_told}
use Rattle.rt1553_report.proofs.TextLaws.{adds, adds_on_ok}
use Rattle.report_pages.proofs.page.push_digest_told.Goals as goal

pub returns : goal.returns
unfolding digest_told
returns c =
    adds_on_ok c.push_markup-4.result _ _
    (adds (adds (adds c.in_ok-push_markup.ensures c.in_ok-push_markup-2.ensures) c.in_ok-push_markup-3.ensures) c.in_ok-push_digest.ensures)
    c.push_markup-4.ensures
