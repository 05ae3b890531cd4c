use Rattle.std.proofs.Common.{◌≡◌, ◌<◌, ◌≢◌, ◌&&◌, ◌==◌, ◌↔◌, ℕ, suc, true, false, not, length, drop, get_or, bit_and, get_or-set_other, ap, ◌∙◌, arith}
use Rattle.std.specs.List.{list_any}
use Rattle.std.proofs.lemmas.List.{get_or_default}
use Rattle.bus_word.specs.Mask.{has_bit}
use Rattle.spare_entries.specs.declared.said.Said.{Said}
use Rattle.spare_entries.specs.inner.Says.{SameBits}
use Rattle.spare_entries.proofs.SaidLaws.{same_bits, bit_after-take, marked}
use Rattle.spare_entries.proofs.said.unmark.Goals as goal

pub loop-k-preserved : goal.loop-k-preserved
loop-k-preserved c =
    let at = c.loop-k.k in
    let entries = c.args.entries.now in
    let spares = c.loop-k.spares in
    let so_far = c.loop-k.invariant in
    let none : Said = record { bits = 0; legal = false } in
    let inside : at < length entries = omega arith in
    let within : at < length spares = omega arith in
    let last = c.index.result.now in
    let filled : at < length c.in_ok-last.last.items = omega (arith, c.in_ok-last.ensures.length) in
    let read : last ≡ get_or c.in_ok-last.last.items at 0 = c.index.ensures ∙ get_or_default c.in_ok-last.last.items at last 0 filled in
    let lasts : (i : ℕ) → i < 32 → has_bit last i ≡ (not (list_any (λ e. has_bit e.bits i) (drop (suc at) entries)) && has_bit (get_or entries at none).bits i) =
    (λ i l. ap (λ mask. has_bit mask i) read ∙ c.in_ok-last.ensures.bits at i inside l none) in
    let law : ((bit_and c.changed.result c.args.numbers == 0) ≡ true) ↔ SameBits c.args.start c.args.numbers entries at =
    same_bits entries at none c.args.start c.args.numbers c.loop-k.mask last c.changed.result inside (omega (arith, c.ranges.numbers.fits)) so_far.mask lasts c.changed.ensures in
    record {
      mask = λ i l. bit_after-take (has_bit c.args.start i) entries at none c.loop-k.mask c.with_bits-mask.result i inside (so_far.mask i l) (c.with_bits-mask.ensures i l);
      made = marked spares c.args.spares.now at (bit_and c.changed.result c.args.numbers == 0) (SameBits c.args.start c.args.numbers entries) within (so_far.left at (omega arith)) so_far.made law;
      left = λ j l. (let other : j ≢ at = omega arith in get_or-set_other spares at j (get_or spares at false && (bit_and c.changed.result c.args.numbers == 0)) false other ∙ so_far.left j (omega arith));
    }
