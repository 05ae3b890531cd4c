use Rattle.std.proofs.Common.{◌≡◌, ◌<◌, ◌≢◌, ◌-◌, ◌&&◌, bit_and, ℕ, suc, not, length, drop, get_or, set, get_or-set_same, get_or-set_other, ⊎_elim, ap, sym, ◌∙◌, arith}
use Rattle.std.specs.List.{list_any}
use Rattle.std.proofs.lemmas.Bool.{cases_lt}
use Rattle.bus_word.specs.Mask.{has_bit}
use Rattle.spare_entries.proofs.Bits.{cleared, some-more}
use Rattle.spare_entries.proofs.said.keep_last.Goals as goal

pub loop-k-preserved : goal.loop-k-preserved
loop-k-preserved c =
    let old = c.args.masks.now in
    let masks = c.loop-k.masks in
    let at = c.loop-k.k - 1 in
    let bits = get_or masks at 0 in
    let so_far = c.loop-k.invariant in
    let inside : at < length masks = omega arith in
    let within : at < length old = omega arith in
    let next : suc at ≡ c.loop-k.k = omega arith in
    let is : bits ≡ get_or old at 0 = so_far.left at (omega arith) in
    let later : (i : ℕ) → i < 32 → has_bit c.loop-k.later i ≡ list_any (λ mask. has_bit mask i) (drop (suc at) old) =
    (λ i l. so_far.later i l ∙ ap (λ n. list_any (λ mask. has_bit mask i) (drop n old)) (sym next)) in
    record {
      later = λ i l. some-more old at i bits c.loop-k.later within is (later i l);
      done = λ j i from to l. ⊎_elim
          (λ lt.
          let other : j ≢ at = omega arith in
          ap (λ mask. has_bit mask i) (get_or-set_other masks at j (bit_and bits (0xffffffff - c.loop-k.later)) 0 other) ∙ so_far.done j i (omega arith) to l)
          (λ le.
          let here : j ≡ at = omega arith in
          ap (λ n. has_bit (get_or (set masks at (bit_and bits (0xffffffff - c.loop-k.later))) n 0) i) here
          ∙ (ap (λ mask. has_bit mask i) (get_or-set_same masks at (bit_and bits (0xffffffff - c.loop-k.later)) 0 inside)
          ∙ (cleared bits c.loop-k.later i (omega (arith, c.loop-k.auto.later-fits)) l
          ∙ ((λ h. not (later i l h) && has_bit (is h) i)
          ∙ ap (λ n. not (list_any (λ mask. has_bit mask i) (drop (suc n) old)) && has_bit (get_or old n 0) i) (sym here)))))
          (cases_lt at j);
      left = λ j l. (let other : j ≢ at = omega arith in get_or-set_other masks at j (bit_and bits (0xffffffff - c.loop-k.later)) 0 other ∙ so_far.left j (omega arith));
    }
