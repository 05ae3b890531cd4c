use Rattle.std.proofs.Common.{◌≡◌, ◌≢◌, ◌<◌, ◌-◌, ◌+◌, ℕ, take, length, get_or, ap, sym, ◌∙◌, arith}
use Rattle.std.proofs.lemmas.List.{get_or-replicate, get_or_default}
use Rattle.bus_word.specs.Mask.{has_bit}
use Rattle.bus_legal.specs.Initial.{initial_word}
use Rattle.bus_legal.specs.Tables.{largest_in}
use Rattle.spare_entries.specs.declared.initials.InitialSpares.{InitialSpares}
use Rattle.spare_entries.proofs.WordSteps.{row-put, row-left, told-put, told-left, left-put}
use Rattle.spare_entries.proofs.WordLaws.{is_entry, marked}
use Rattle.spare_entries.proofs.initials.mark_initials.Goals as goal
use Rattle.spare_entries.proofs.initials.mark_initials.Goals.{then-entry-subaddress, else-entry-subaddress}

pub loop-k-init : goal.loop-k-init
loop-k-init c = record {
  row = λ i l. get_or-replicate {A = ℕ} 32 i 0 0 l;
  made = λ j l. absurd (omega arith);
  left = λ j l d _ d' d''. get_or_default c.args.spares.now j d'' d' (omega (arith, c.requires.many));
}

pub loop-k-preserved : goal.loop-k-preserved
loop-k-preserved c =
    let entries = c.args.entries.now in
    let sent = c.args.sent.now in
    let s = c.args.subaddress in
    let at = c.loop-k.k in
    let e = c.index-entries-k.result in
    let is = c.index-entries-k.is in
    let so_far = c.loop-k.invariant in
    let spares = c.loop-k.spares in
    let inside : at < length entries = omega arith in
    let within : at < length spares = omega arith in
    let largest = c.largest_count-largest.result in
    let most : largest ≡ largest_in (get_or sent (s - 1) 0) = c.largest_count-largest.ensures.count ∙ ap (λ n. largest_in (get_or sent (n - 1) 0)) c.from.ensures in
    elim c.if-entry-subaddress.branch [
      | then-entry-subaddress w ↦
          let here : e.subaddress ≡ s = w.if-entry-subaddress.true in
          let numbers = w.index-numbers.result.now in
          let items = c.in_ok-last.last.items in
          let spare : InitialSpares = record { entry = w.is_spare.result; words = w.spare_words.result } in
          let filled : at < length items = omega (arith, c.in_ok-last.ensures.length) in
          let read : numbers ≡ get_or items at 0 = w.index-numbers.ensures ∙ get_or_default items at numbers 0 filled in
          let entry = is_entry sent entries at e s numbers largest inside is here most (λ i l. ap (λ m. has_bit m i) read ∙ c.in_ok-last.ensures.numbers at i inside l e) in
          let rows : (i : ℕ) → i < 32 → get_or c.loop-k.row i 0 ≡ initial_word (take at entries) e.subaddress (i + 1) =
          (λ i l. so_far.row i l ∙ ap (λ n. initial_word (take at entries) n (i + 1)) (sym here)) in
          record {
            row = λ i l. ap (λ list. get_or list i 0) w.row-is ∙ row-put entries at e s i (get_or c.loop-k.row i 0) (get_or w.put_words.new.row i 0) inside is here (so_far.row i l) (w.put_words.ensures i l);
            made = told-put sent entries s at spares c.if-entry-subaddress.spares spare within w.spares-is
                (marked sent entries at e numbers largest c.loop-k.row spare entry rows w.is_spare.ensures w.spare_words.ensures) so_far.made;
            left = λ j l. left-put entries s at c.args.spares.now spares c.if-entry-subaddress.spares spare e inside is here w.spares-is j (so_far.left j l);
          }
      | else-entry-subaddress w ↦
          let apart : e.subaddress ≢ s = w.if-entry-subaddress.false in
          rw (w.spares-is, w.row-is) (record {
            row = λ i l. row-left entries at e s i (get_or c.loop-k.row i 0) inside is apart (so_far.row i l);
            made = told-left sent entries s at spares e inside is apart so_far.made;
            left = so_far.left;
          })
    ]
