use Rattle.report_pages.specs.Fields.{count_field}
use Rattle.rt1553_report.proofs.TextLaws.{adds, adds_on_ok}
use Rattle.report_pages.proofs.fields.push_count_field.Goals as goal

pub returns : goal.returns
unfolding count_field
returns c =
    adds_on_ok c.push_markup-2.result _ _
    (adds c.in_ok-push_markup.ensures c.in_ok-push_plain_number.ensures)
    c.push_markup-2.ensures
