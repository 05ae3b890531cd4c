use Rattle.std.proofs.Common.{◌≡◌, ◌∙◌, ◌+◌, ◌++◌, ◌∷◌, [], take, map, sym, ap, arith}
use Rattle.std.proofs.lemmas.List.{take_more}
use Rattle.arrayvec.specs.ArrayString.{ArrayString, array_string_len}
use Rattle.message_rows.specs.Texts.{field_told, comma_joined}
use Rattle.message_rows.proofs.RowLaws.{taken-first, taken-next}
use Rattle.message_rows.proofs.line.push_fields.Goals.{then-index-gt0, else-index-gt0}
use Rattle.message_rows.proofs.line.push_fields.Goals as goal

pub loop-index-preserved : goal.loop-index-preserved
loop-index-preserved c =
    let fs = c.args.fields.now in
    let i = c.loop-index.index in
    let f = c.index-fields-index.result in
    let old = c.args.text.now.bytes in
    let new = c.push_field_text.new.text.bytes in
    let grown = c.push_field_text.ensures.bytes in
    let before = c.loop-index.invariant.text in
    let more : take (i + 1) fs ≡ take i fs ++ f ∷ [] = take_more fs i f c.loop-index-test.true ∙ ap (λ x. take i fs ++ x ∷ []) (sym c.index-fields-index.is) in
    let told : new ≡ old ++ comma_joined (map field_told (take i fs ++ f ∷ [])) = elim c.if-index-gt0.branch [
      | then-index-gt0 w ↦ taken-next fs i f old c.loop-index.text.bytes c.if-index-gt0.text.bytes new (omega (arith, w.if-index-gt0.true)) c.loop-index-test.true before (ap (λ (t : ArrayString). t.bytes) w.text-is ∙ w.push_str.ensures.bytes) grown
      | else-index-gt0 w ↦ taken-first fs i f old c.loop-index.text.bytes new (omega (arith, w.if-index-gt0.false)) before
          (grown ∙ ap (λ (t : ArrayString). t.bytes ++ field_told f) w.text-is)
    ] in
    let far = c.loop-index.invariant.room in
    let len = c.push_field_text.ensures.len in record {
      room = elim c.if-index-gt0.branch [
        | then-index-gt0 w ↦ omega (arith, far, len, ap array_string_len w.text-is, w.push_str.ensures.len)
        | else-index-gt0 w ↦ omega (arith, far, len, ap array_string_len w.text-is)
      ];
      text = told ∙ ap (λ xs. old ++ comma_joined (map field_told xs)) (sym more);
    }
