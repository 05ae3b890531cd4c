use Rattle.std.proofs.Common.{◌≡◌, ◌<◌, ◌==◌, ◌&&◌, ℕ, true, false, not, get_or, ap, sym, ◌∙◌, arith}
use Rattle.std.proofs.lemmas.Nat.Bits.{bit_at_ones}
use Rattle.bus_word.specs.Mask.{has_bit}
use Rattle.spare_entries.specs.inner.Words.{is_held}
use Rattle.spare_entries.proofs.WordSteps.{clear_step, clear_left, keep_step}
use Rattle.spare_entries.proofs.initials.spare_words.Goals as goal
use Rattle.spare_entries.proofs.initials.spare_words.Goals.{then-is_held+then-entry-word-ne0, else-is_held, else-is_held-via-then-is_held+else-entry-word-ne0, else-is_held-via-else-is_held}

pub loop-word-init : goal.loop-word-init
loop-word-init c = record { made = λ w l. absurd (omega arith); left = λ w _ l. ap (λ b. b == 1) (bit_at_ones 32 w l) }

pub loop-word-preserved : goal.loop-word-preserved
loop-word-preserved c =
    let e = c.args.entry.now in
    let at = c.loop-word.word in
    let spare = c.loop-word.spare in
    let so_far = c.loop-word.invariant in
    let new = c.if-is_held.spare in
    let small : at < 32 = omega arith in
    let H : ℕ → Type 0 = λ w. is_held e c.args.last c.args.largest w ≡ true → get_or e.words w 0 ≡ 0 in
    elim c.if-is_held.branch [
      | then-is_held+then-entry-word-ne0 w ↦
          let bits : (i : ℕ) → i < 32 → has_bit new i ≡ (not (i == at) && has_bit spare i) = (λ i l. ap (λ m. has_bit m i) w.spare-is ∙ w.without_bit-spare.ensures i l) in
          record {
            made = clear_step spare new at H small bits (λ f. w.if-entry-word-ne0.true (f (sym c.is_held.ensures ∙ w.if-is_held.true))) so_far.made;
            left = clear_left spare new at bits so_far.left;
          }
      | else-is_held w ↦
          let holds : H at =
          elim w.else-is_held.branch [
            | else-is_held-via-then-is_held+else-entry-word-ne0 v ↦ λ _. v.if-entry-word-ne0.false
            | else-is_held-via-else-is_held v ↦ λ h. (let wrong : true ≡ false = sym h ∙ (sym c.is_held.ensures ∙ v.if-is_held.false) in cc)
          ] in
          rw w.spare-is (record {
            made = keep_step spare at H (so_far.left at (omega arith) small) holds so_far.made;
            left = λ v l m. so_far.left v (omega arith) m;
          })
    ]
