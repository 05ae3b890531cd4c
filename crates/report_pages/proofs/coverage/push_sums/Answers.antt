use Rattle.std.proofs.Common.{◌-◌, ◌∙◌, ap, filter, length}
use Rattle.recording_coverage.specs.Places.{has_come, was_done}
use Rattle.report_pages.specs.CoveragePage.{sum_rows}
use Rattle.rt1553_report.proofs.TextLaws.{adds, adds_on_ok}
use Rattle.report_pages.proofs.RowLaws.{counts_as}
use Rattle.report_pages.proofs.coverage.push_sums.Goals as goal

pub returns : goal.returns
unfolding sum_rows
returns c =
    let came = length (filter has_come c.args.legal.now) in
    adds_on_ok c.push_count_row-5.result _ _
    (adds (adds (adds c.in_ok-push_count_row.ensures (counts_as _ came c.come_in-came.ensures c.in_ok-push_count_row-2.ensures))
    (counts_as _ (length (filter was_done c.args.legal.now)) c.done_in.ensures c.in_ok-push_count_row-3.ensures))
    (counts_as _ (length c.args.legal.now - came) (c.saturating_sub-never.ensures ∙ ap (λ n. length c.args.legal.now - n) c.come_in-came.ensures) c.in_ok-push_count_row-4.ensures))
    c.push_count_row-5.ensures
