use Rattle.std.proofs.Common.{◌≡◌, ℕ, ◌+◌, ◌≤◌, List, [], length, ◌∙◌, ◌++◌, sym, ap, get_or, arith}
use Rattle.std.proofs.lemmas.List.{take_all}
use Rattle.std.specs.List.{zip}
use Rattle.rt1553_toml.specs.inner.FullTree.{from_number}
use Rattle.rt1553_export.specs.inner.Rows.{row_bytes, rows_text}
use Rattle.rt1553_export.specs.inner.Full.{transmit_row}
use Rattle.rt1553_export.proofs.RowLaws.{one_more, zip_at, length-zip}
use Rattle.rt1553_export.proofs.full.push_transmits.Goals as goal

pub loop-index-preserved : goal.loop-index-preserved
loop-index-preserved c =
    let masks : List ℕ = c.args.masks.now in
    let words : List (List ℕ) = c.args.words.now in
    let i : ℕ = c.loop-index.index in
    let long : length (zip masks words) ≡ 30 = length-zip masks words (c.told-masks ∙ sym c.told-words) ∙ c.told-masks in
    let at = zip_at masks words i 0 [] (omega (arith, c.told-masks, c.loop-index-test.true)) (omega (arith, c.told-words, c.loop-index-test.true)) in
    one_more transmit_row (zip masks words) i (0, []) c.args.text.now.items c.loop-index.text.items _ (omega (arith, long, c.loop-index-test.true)) c.loop-index.invariant
    (c.in_ok-push_transmit.ensures
    ∙ ap (λ n. c.loop-index.text.items ++ row_bytes (transmit_row (i + 1) (get_or masks n 0, get_or words n []))) c.from-at.ensures
    ∙ ap (λ pair. c.loop-index.text.items ++ row_bytes (transmit_row (i + 1) pair)) (sym at))

pub returns : goal.returns
returns c =
    let masks : List ℕ = c.args.masks.now in
    let words : List (List ℕ) = c.args.words.now in
    let long : length (zip masks words) ≡ 30 = length-zip masks words (c.told-masks ∙ sym c.told-words) ∙ c.told-masks in
    let all : length (zip masks words) ≤ c.loop-index.index = omega (arith, long, c.loop-index-test.false) in
    c.loop-index.invariant ∙ ap (λ ps. c.args.text.now.items ++ rows_text (from_number transmit_row 1 ps)) (take_all c.loop-index.index (zip masks words) all)
