use Rattle.report_pages.specs.Fields.{count_row}
use Rattle.rt1553_report.proofs.TextLaws.{adds, adds_on_ok}
use Rattle.report_pages.proofs.fields.push_count_row.Goals as goal

pub returns : goal.returns
unfolding count_row
returns c =
    adds_on_ok c.push_markup-4.result _ _
    (adds (adds (adds c.in_ok-push_markup.ensures c.in_ok-push_markup-2.ensures) c.in_ok-push_markup-3.ensures) c.in_ok-push_count_field.ensures)
    c.push_markup-4.ensures
