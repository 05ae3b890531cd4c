use Rattle.std.proofs.Common.{◌≡◌, ℕ, List, ◌++◌, codes, ◌∙◌, sym, ap, subst}
use Rattle.std.specs.List.{zip}
use Rattle.std.specs.Result.{OnOk}
use Rattle.bus_legal.specs.Parts.{Parts}
use Rattle.rt1553_toml.specs.inner.FullTree.{from_number}
use Rattle.rt1553_export.specs.inner.Rows.{rows_text}
use Rattle.rt1553_export.specs.inner.Full.{receive_row, transmit_row}
use Rattle.rt1553_export.proofs.RowLaws.{piece, rows_text-append}
use Rattle.rt1553_export.proofs.full.push_messages.Goals as goal

pub returns : goal.returns
returns c =
    let v : Parts = c.args.normal.now in
    let a = from_number (receive_row (codes "own")) 1 v.tables.own_receive in
    let b = from_number transmit_row 1 (zip v.tables.own_transmit v.initial) in
    let d = from_number (receive_row (codes "broadcast")) 1 v.tables.broadcast_receive in
    let t0 : List ℕ = c.args.text.now.items in
    let t1 : List ℕ = c.push_receives.new.text.items in
    let t2 : List ℕ = c.push_transmits.new.text.items in
    let e1 : t1 ≡ t0 ++ rows_text a = c.in_ok-push_receives.ensures ∙ ap (λ t. t0 ++ rows_text (from_number (receive_row (codes "own")) 1 t.own_receive)) c.tables-tables.ensures in
    let e2 : t2 ≡ t1 ++ rows_text b = c.in_ok-push_transmits.ensures ∙ (λ j. t1 ++ rows_text (from_number transmit_row 1 (zip (c.tables-tables.ensures j).own_transmit (c.initial.ensures j)))) in
    let e3 : t2 ++ rows_text (from_number (receive_row (codes "broadcast")) 1 c.tables-tables.result.now.broadcast_receive) ≡ t2 ++ rows_text d = ap (λ t. t2 ++ rows_text (from_number (receive_row (codes "broadcast")) 1 t.broadcast_receive)) c.tables-tables.ensures in
    let all : t2 ++ rows_text d ≡ t0 ++ rows_text (a ++ (b ++ d)) =
    piece t1 t2 (rows_text b) (rows_text d) e2 ∙ piece t0 t1 (rows_text a) (rows_text b ++ rows_text d) e1
    ∙ ap (λ t. t0 ++ t) (ap (λ t. rows_text a ++ t) (sym (rows_text-append b d)) ∙ sym (rows_text-append a (b ++ d))) in
    subst (λ t. OnOk c.push_receives-2.result (c.push_receives-2.new.text.items ≡ t)) (e3 ∙ all) c.push_receives-2.ensures
