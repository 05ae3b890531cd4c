use Rattle.std.proofs.Common.{◌≡◌, ℕ, ◌+◌, ◌-◌, ◌<◌, ◌≤◌, ◌^◌, get_or, take, length, ap, subst, sym, ◌∙◌, length-take-le, rules, arith}
use Rattle.bus_legal.proofs.Words.{get_or-numbered, part-block, take-fits}
use Rattle.bus_legal.proofs.initial.put_words.Goals as goal

pub returns-clause-block : goal.returns-clause-block
returns-clause-block c =
    let words = c.args.entry.now.words in
    let start = c.from-start.result - 1 in
    let len = c.from-len.result in
    let part = c.copy_from_slice.new.self in
    let long : length words ≡ 32 = search rules in
    let fits : (i : ℕ) → get_or words i 0 < 2 ^ 16 = search (rules, c.fits-entry) in
    let whole : length part ≡ len = ap length c.copy_from_slice.ensures.after ∙ length-take-le len words (omega arith) in
    let room : start + (start + len - start) ≤ length c.args.block.now = omega arith in
    part-block start (start + len - start) c.args.block.now part (omega (arith, whole)) room (record { long = c.told-block; fit = c.fits-block }) (λ i. subst (λ ws. get_or ws i 0 < 2 ^ 16) (sym c.copy_from_slice.ensures.after) (take-fits len words i fits))

pub returns-clause-words : goal.returns-clause-words
returns-clause-words c =
    let words = c.args.entry.now.words in
    let start = c.from-start.result - 1 in
    let len = c.from-len.result in
    let long : length words ≡ 32 = search rules in
    let whole : length c.copy_from_slice.new.self ≡ len = ap length c.copy_from_slice.ensures.after ∙ length-take-le len words (omega arith) in
    let part_is = c.copy_from_slice.ensures.after ∙ ap (λ n. take n words) c.from-len.ensures in
    λ i l. get_or-numbered c.args.entry.now.first c.args.entry.now.len start (start + len - start) c.args.block.now words c.copy_from_slice.new.self i (omega arith) (omega arith) (omega arith) part_is (omega (arith, whole)) (omega arith)
