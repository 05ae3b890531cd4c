use Rattle.std.proofs.Common.{◌≡◌, ℕ, List, [], ◌++◌, codes, ◌∙◌, sym, ap, subst, append-nil}
use Rattle.std.specs.Result.{OnOk}
use Rattle.bus_legal.specs.Parts.{Parts}
use Rattle.rt1553_toml.specs.Sets.{two_digits}
use Rattle.rt1553_export.specs.inner.Rows.{setting_cells, row_bytes}
use Rattle.rt1553_export.specs.inner.Full.{yes_no, word_cell, wrap_cell}
use Rattle.rt1553_export.proofs.RowLaws.{piece}
use Rattle.rt1553_export.proofs.full.push_settings.Goals as goal

-- a row whose value is known otherwise
valued : (before kind value same : List ℕ) → value ≡ same → before ++ row_bytes (setting_cells kind value) ≡ before ++ row_bytes (setting_cells kind same)
valued before kind value same e = ap (λ x. before ++ row_bytes (setting_cells kind x)) e

pub returns : goal.returns
returns c =
    let v : Parts = c.args.normal.now in
    let t0 : List ℕ = c.args.text.now.items in
    let t1 : List ℕ = c.push_setting.new.text.items in
    let t2 : List ℕ = c.push_setting-2.new.text.items in
    let t3 : List ℕ = c.push_setting-3.new.text.items in
    let t4 : List ℕ = c.push_setting-4.new.text.items in
    let t5 : List ℕ = c.push_setting-5.new.text.items in
    let r1 : List ℕ = row_bytes (setting_cells (codes "address") (two_digits v.address)) in
    let r2 : List ℕ = row_bytes (setting_cells (codes "broadcast") (yes_no v.broadcast)) in
    let r3 : List ℕ = row_bytes (setting_cells (codes "wraparound") (wrap_cell v.wrap)) in
    let r4 : List ℕ = row_bytes (setting_cells (codes "accept_bus_control") (yes_no v.accept)) in
    let r5 : List ℕ = row_bytes (setting_cells (codes "vector") (word_cell v.vector)) in
    let r6 : List ℕ = row_bytes (setting_cells (codes "bit") (word_cell v.bit)) in
    let e1 : t1 ≡ t0 ++ r1 = c.in_ok-push_setting.ensures ∙ valued t0 (codes "address") _ _ (c.two_digits.ensures ∙ ap two_digits c.address.ensures) in
    let e2 : t2 ≡ t1 ++ r2 = c.in_ok-push_setting-2.ensures ∙ valued t1 (codes "broadcast") _ _ (c.yes_no.ensures ∙ ap yes_no c.broadcast.ensures) in
    let e3 : t3 ≡ t2 ++ r3 = c.in_ok-push_setting-3.ensures ∙ valued t2 (codes "wraparound") _ _ (c.wrap_cell.ensures ∙ ap wrap_cell c.wrap.ensures) in
    let e4 : t4 ≡ t3 ++ r4 = c.in_ok-push_setting-4.ensures ∙ valued t3 (codes "accept_bus_control") _ _ (c.yes_no-2.ensures ∙ ap yes_no c.accept.ensures) in
    let e5 : t5 ≡ t4 ++ r5 = c.in_ok-push_setting-5.ensures ∙ valued t4 (codes "vector") _ _ (c.word_cell.ensures ∙ ap word_cell c.vector.ensures) in
    let all : t5 ++ r6 ≡ t0 ++ (r1 ++ (r2 ++ (r3 ++ (r4 ++ (r5 ++ (r6 ++ [])))))) =
    ap (λ t. t5 ++ t) (sym (append-nil r6)) ∙ piece t4 t5 r5 (r6 ++ []) e5 ∙ piece t3 t4 r4 (r5 ++ (r6 ++ [])) e4 ∙ piece t2 t3 r3 (r4 ++ (r5 ++ (r6 ++ []))) e3
    ∙ piece t1 t2 r2 (r3 ++ (r4 ++ (r5 ++ (r6 ++ [])))) e2 ∙ piece t0 t1 r1 (r2 ++ (r3 ++ (r4 ++ (r5 ++ (r6 ++ []))))) e1 in
    subst (λ t. OnOk c.push_setting-6.result (c.push_setting-6.new.text.items ≡ t)) (valued t5 (codes "bit") _ _ (c.word_cell-2.ensures ∙ ap word_cell c.bit.ensures) ∙ all) c.push_setting-6.ensures
