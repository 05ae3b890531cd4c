use Rattle.std.proofs.Common.{◌≡◌, ◌&&◌, not, suc, get_or, map, drop, ap, ◌∙◌, rules}
use Rattle.std.specs.List.{list_any}
use Rattle.bus_word.specs.Mask.{has_bit}
use Rattle.bus_legal.specs.declared.entries.InitialWords.{InitialWords}
use Rattle.spare_entries.specs.inner.Words.{numbers_at}
use Rattle.spare_entries.proofs.Marks.{written}
use Rattle.spare_entries.proofs.SaidLaws.{bits_last}
use Rattle.spare_entries.proofs.WordSteps.{numbers-bit}
use Rattle.spare_entries.proofs.initials.last_numbers.Goals as goal

pub returns-clause-numbers : goal.returns-clause-numbers
returns-clause-numbers c =
    let entries = c.args.entries.now in
    let s = c.args.subaddress in
    let masks = c.in_ok-masks.masks in
    let new = c.keep_last.new.masks in
    let old = c.deref_mut.result.now in
    let is : old ≡ map (numbers_at s) entries = c.deref_mut.ensures.value ∙ c.in_ok-masks.ensures in
    let all = written masks.len new masks.items (search rules) (search rules) in
    λ k i l m d. ap (λ ms. has_bit (get_or ms k 0) i) all
    ∙ (bits_last (numbers_at s) entries old new k i d is l m c.keep_last.ensures
    ∙ (λ j. not (list_any (λ (e : InitialWords). numbers-bit s i e j) (drop (suc k) entries)) && numbers-bit s i (get_or entries k d) j))
