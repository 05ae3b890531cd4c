use Rattle.std.proofs.Common.{◌∙◌, Some, ap, sym, option_map, string_bytes}
use Rattle.report_pages.specs.ResultsPage.{IsProfileField}
use Rattle.rt1553_report.proofs.TextLaws.{piece_of_same}
use Rattle.report_pages.proofs.page.push_profile_field.Goals as goal

pub returns-in-Some : goal.returns-in-Some
returns-in-Some c = piece_of_same c.push_profile_cell.result IsProfileField _ _ (ap (option_map string_bytes) c.in-Some.is ∙ ap Some (sym c.as_str.ensures.value)) c.push_profile_cell.ensures
