use Rattle.std.proofs.Common.{◌≡◌, get_or, map, ap, ◌∙◌, rules}
use Rattle.bus_word.specs.Mask.{has_bit}
use Rattle.spare_entries.specs.declared.said.Said.{Said}
use Rattle.spare_entries.proofs.Marks.{written}
use Rattle.spare_entries.proofs.SaidLaws.{bits_last}
use Rattle.spare_entries.proofs.said.last_bits.Goals as goal

pub returns-clause-bits : goal.returns-clause-bits
returns-clause-bits c =
    let entries = c.args.entries.now in
    let masks = c.in_ok-masks.masks in
    let new = c.keep_last.new.masks in
    let old = c.deref_mut.result.now in
    let is : old ≡ map (λ (e : Said). e.bits) entries = c.deref_mut.ensures.value ∙ c.in_ok-masks.ensures in
    let all = written masks.len new masks.items (search rules) (search rules) in
    λ k i l m d. ap (λ ms. has_bit (get_or ms k 0) i) all ∙ bits_last (λ (e : Said). e.bits) entries old new k i d is l m c.keep_last.ensures
