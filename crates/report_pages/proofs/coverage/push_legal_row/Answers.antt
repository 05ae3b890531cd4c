use Rattle.std.proofs.Common.{refl, option_map, string_bytes}
use Rattle.recording_coverage.specs.Texts.{place_told}
use Rattle.rt1553_report.specs.Pieces.{AddsPiece}
use Rattle.report_pages.specs.CoveragePage.{IsLegalRow, legal_page_row}
use Rattle.rt1553_report.proofs.TextLaws.{adds, adds_on_ok, chosen}
use Rattle.report_pages.proofs.coverage.push_legal_row.Goals as goal

pub returns : goal.returns
unfolding legal_page_row
returns c =
    let place : AddsPiece (string_bytes c.push_legal_begin.new.page) (string_bytes c.push_place.new.text) (place_told c.args.message.now.cell) = record { is = c.in_ok-push_place.ensures } in
    let n = c.in_ok-push_name_field.ensures in
    chosen c.push_markup-2.result (IsLegalRow (option_map (λ n. n.now) c.args.names) c.args.message.now) _ _ _ (n.0, n.1, refl)
    (adds_on_ok c.push_markup-2.result _ _
    (adds (adds (adds (adds (adds (adds c.in_ok-push_legal_begin.ensures place) c.in_ok-push_markup.ensures) c.in_ok-push_cell_words.ensures) n.2) c.in_ok-push_come.ensures) c.in_ok-push_outcomes.ensures)
    c.push_markup-2.ensures)
