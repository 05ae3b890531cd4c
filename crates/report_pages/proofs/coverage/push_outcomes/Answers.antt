use Rattle.report_pages.specs.CoveragePage.{outcome_fields}
use Rattle.rt1553_report.proofs.TextLaws.{adds, adds_on_ok}
use Rattle.report_pages.proofs.coverage.push_outcomes.Goals as goal

pub returns : goal.returns
unfolding outcome_fields
returns c =
    adds_on_ok c.push_count_field-6.result _ _
    (adds (adds (adds (adds c.in_ok-push_count_field.ensures c.in_ok-push_count_field-2.ensures) c.in_ok-push_count_field-3.ensures) c.in_ok-push_count_field-4.ensures) c.in_ok-push_count_field-5.ensures)
    c.push_count_field-6.ensures
