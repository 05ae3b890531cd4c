use Rattle.std.proofs.Common.{ap, option_map}
use Rattle.report_pages.specs.ResultsPage.{IsDateRow}
use Rattle.rt1553_report.proofs.TextLaws.{piece_of_same}
use Rattle.report_pages.proofs.page.push_date.Goals as goal

pub returns-in-Some : goal.returns-in-Some
returns-in-Some c = piece_of_same c.push_date_row.result IsDateRow _ _ (ap (option_map (λ d. d.now)) c.in-Some.is) c.push_date_row.ensures
