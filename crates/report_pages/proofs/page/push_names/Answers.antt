use Rattle.report_pages.specs.ResultsPage.{IsNamesRow}
use Rattle.rt1553_report.proofs.TextLaws.{piece_of_same}
use Rattle.report_pages.proofs.page.push_names.Goals as goal

pub returns-in-Some : goal.returns-in-Some
returns-in-Some c = piece_of_same c.push_table_row.result IsNamesRow _ _ c.in-Some.is c.push_table_row.ensures
