use Rattle.std.proofs.Common.{refl, subst, option_map, string_bytes}
use Rattle.recording_coverage.specs.Texts.{command_told}
use Rattle.rt1553_report.specs.Pieces.{AddsPiece}
use Rattle.report_pages.specs.CoveragePage.{IsNameField, IsIllegalRow, illegal_page_row}
use Rattle.rt1553_report.proofs.TextLaws.{adds, adds_on_ok, chosen}
use Rattle.report_pages.proofs.coverage.push_illegal_row.Goals as goal

pub returns : goal.returns
unfolding illegal_page_row
returns c =
    let told : AddsPiece (string_bytes c.push_markup.new.page) (string_bytes c.push_command.new.text) (command_told c.args.message.now.command) = record { is = c.in_ok-push_command.ensures } in
    let n = c.in_ok-push_name_field.ensures in
    chosen c.push_markup-3.result (IsIllegalRow (option_map (λ n. n.now) c.args.names) c.args.message.now) _ _ _ (n.0, subst (λ cell. IsNameField (option_map (λ n. n.now) c.args.names) cell n.0) c.cell_of.ensures n.1, refl)
    (adds_on_ok c.push_markup-3.result _ _
    (adds (adds (adds (adds (adds c.in_ok-push_markup.ensures told) c.in_ok-push_markup-2.ensures) c.in_ok-push_command_words.ensures) n.2) c.in_ok-push_outcomes.ensures)
    c.push_markup-3.ensures)
