use Rattle.std.proofs.Common.{◌≡◌, ◌∙◌, ℕ, Bool, List, ◌++◌, ap, refl}
use Rattle.rt1553_report.specs.Pieces.{AddsPiece}
use Rattle.report_pages.specs.MessageList.{IsListRow, list_begin}
use Rattle.rt1553_report.proofs.TextLaws.{adds, adds_on_ok, chosen}
use Rattle.report_pages.proofs.list.push_list_row.Goals as goal

begun : {old new : List ℕ} (b d : Bool) → b ≡ d → AddsPiece old new (list_begin b) → AddsPiece old new (list_begin d)
begun {old} {new} b d same added = record { is = added.is ∙ ap (λ x. old ++ list_begin x) same }

pub returns : goal.returns
unfolding IsListRow
returns c =
    let cells = c.in_ok-push_cells.ensures in
    let begin = begun _ _ c.is_faulty.ensures c.in_ok-push_list_begin.ensures in
    chosen c.push_markup.result (IsListRow c.args.message.now c.args.cells.now) _ _ _ (cells.0, cells.1, refl)
    (adds_on_ok c.push_markup.result _ _
    (adds (adds (adds begin c.in_ok-push_link.ensures) c.in_ok-push_count_field.ensures) cells.2)
    c.push_markup.ensures)
