use Rattle.std.proofs.Common.{refl, subst, map, codes, string_bytes}
use Rattle.rt1553_report.specs.Pieces.{AddsPiece}
use Rattle.report_pages.specs.CoveragePage.{IsFileRow, IsReadPart, sum_rows, worth}
use Rattle.rt1553_report.proofs.TextLaws.{adds, adds_on_ok, chosen}
use Rattle.report_pages.proofs.RowLaws.{rows_of_map}
use Rattle.report_pages.proofs.coverage.push_read.Goals as goal

pub returns : goal.returns
unfolding worth
returns c =
    let f = c.in_ok-push_file_row.ensures in
    let r = c.in_ok-push_recordings.ensures in
    let sums = subst (λ xs. AddsPiece (string_bytes c.push_recordings.new.page) (string_bytes c.push_sums.new.page) (sum_rows xs c.args.table.now.illegal.items)) c.as_slice.ensures.value
    (subst (λ xs. AddsPiece (string_bytes c.push_recordings.new.page) (string_bytes c.push_sums.new.page) (sum_rows c.as_slice.result.now xs)) c.as_slice-2.ensures.value c.in_ok-push_sums.ensures) in
    chosen c.push_markup-3.result (IsReadPart c.args.profile.now (map (λ file. file.now) c.args.recordings.now) c.args.table.now.legal.items c.args.table.now.illegal.items) _ _ _
    (f.0, r.0, f.1, rows_of_map (IsFileRow (codes "recording")) (λ file. file.now) c.args.recordings.now r.0 r.1, refl)
    (adds_on_ok c.push_markup-3.result _ _
    (adds (adds (adds (adds c.in_ok-push_markup.ensures f.2) r.2) sums) c.in_ok-push_markup-2.ensures)
    c.push_markup-3.ensures)
