use Rattle.report_pages.specs.MessageList.{link_field}
use Rattle.rt1553_report.proofs.TextLaws.{adds, adds_on_ok}
use Rattle.report_pages.proofs.list.push_link.Goals as goal

pub returns : goal.returns
unfolding link_field
returns c =
    adds_on_ok c.push_markup-3.result _ _
    (adds (adds (adds c.in_ok-push_markup.ensures c.in_ok-push_plain_number.ensures) c.in_ok-push_markup-2.ensures) c.in_ok-push_plain_number-2.ensures)
    c.push_markup-3.ensures
