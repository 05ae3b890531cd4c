use Rattle.std.proofs.Common.{◌≡◌, ℕ, List, [], ◌++◌, ◌∙◌, sym, ap}
use Rattle.bus_legal.specs.Parts.{Parts}
use Rattle.rt1553_export.specs.inner.Rows.{header_cells, row_bytes, rows_text}
use Rattle.rt1553_export.specs.inner.Full.{all_settings, all_messages, all_codes}
use Rattle.rt1553_export.proofs.RowLaws.{piece, rows_text-append}
use Rattle.rt1553_export.proofs.full.full_text.Goals as goal

pub returns : goal.returns
returns c =
    let v : Parts = c.args.normal.now in
    let a : List ℕ = rows_text (all_settings v) in
    let b : List ℕ = rows_text (all_messages v) in
    let d : List ℕ = rows_text (all_codes v.tables) in
    let t1 : List ℕ = c.push_header.new.text.items in
    let t2 : List ℕ = c.push_settings.new.text.items in
    let t3 : List ℕ = c.push_messages.new.text.items in
    let e1 : t1 ≡ [] ++ row_bytes header_cells = c.in_ok-push_header.ensures ∙ ap (λ t. t ++ row_bytes header_cells) c.new-text.ensures.items in
    let e4 = c.in_ok-push_all_codes.ensures ∙ ap (λ t. t3 ++ rows_text (all_codes t)) c.tables.ensures in
    e4 ∙ piece t2 t3 b d c.in_ok-push_messages.ensures ∙ piece t1 t2 a (b ++ d) c.in_ok-push_settings.ensures ∙ piece [] t1 (row_bytes header_cells) (a ++ (b ++ d)) e1
    ∙ ap (λ t. row_bytes header_cells ++ t) (ap (λ t. a ++ t) (sym (rows_text-append (all_messages v) (all_codes v.tables))) ∙ sym (rows_text-append (all_settings v) (all_messages v ++ all_codes v.tables)))
