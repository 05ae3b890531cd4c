use Rattle.report_pages.specs.ResultsPage.{scripts_head}
use Rattle.rt1553_report.proofs.TextLaws.{adds}
use Rattle.report_pages.proofs.page.results_page.Goals as goal

pub returns : goal.returns
unfolding scripts_head
returns c =
    let head = c.in_ok-push_head.ensures in
    let profiles = c.in_ok-push_profiles.ensures in
    let scripts = c.in_ok-push_scripts.ensures in (
      _,
      head.0,
      profiles.0,
      _,
      scripts.0,
      _,
      _,
      head.1,
      profiles.1,
      scripts.1,
      adds (adds (adds (adds (adds (adds (adds (adds c.in_ok-push_markup.ensures head.2) profiles.2) c.in_ok-push_markup-2.ensures) c.in_ok-push_markup-3.ensures)
          scripts.2) c.in_ok-push_markup-4.ensures) c.in_ok-push_markup-5.ensures) c.in_ok-push_markup-6.ensures,
    )
