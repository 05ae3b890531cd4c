use Rattle.std.proofs.Common.{◌<◌, ◌↔◌, ℕ, IsTrue, HoldsAt, List, length, get_or, subst, sym, rules}
use Rattle.bus_word.specs.Mask.{has_bit}
use Rattle.bus_legal.specs.Meaning.{description_of}
use Rattle.terminal_rules.specs.Same.{Same}
use Rattle.bus_legal.specs.declared.entries.InitialWords.{InitialWords}
use Rattle.spare_entries.specs.declared.initials.InitialSpares.{InitialSpares}
use Rattle.spare_entries.specs.Without.{without_initial, SparesWord}
use Rattle.spare_entries.specs.inner.Words.{IsMarked}
use Rattle.spare_entries.proofs.Marks.{written}
use Rattle.spare_entries.proofs.WordLaws.{entry_told, word_told}
use Rattle.spare_entries.proofs.initials.spare_initials.Goals as goal

pub returns-clause-entries : goal.returns-clause-entries
returns-clause-entries c =
    let p = c.args.profile.now in
    let t = c.of.result in
    let spares = c.in_ok-spares.spares in
    let new = c.mark_all.new.spares in
    let all = written spares.len new spares.items (search rules) (search rules) in
    let told : (k : ℕ) → k < length p.initials → HoldsAt (IsMarked t.own_transmit p.initials k) new k =
    subst (λ (es : List InitialWords). (k : ℕ) → k < length es → HoldsAt (IsMarked t.own_transmit es k) new k) c.as_slice-entries.ensures c.in_ok-mark_all.ensures in
    λ k l d. subst (λ (list : List InitialSpares). IsTrue (get_or list k d).entry ↔ Same (description_of p) (without_initial p k)) (sym all) (entry_told p t k (get_or new k d) c.of.ensures.legal (told k l d))

pub returns-clause-words : goal.returns-clause-words
returns-clause-words c =
    let p = c.args.profile.now in
    let t = c.of.result in
    let spares = c.in_ok-spares.spares in
    let new = c.mark_all.new.spares in
    let all = written spares.len new spares.items (search rules) (search rules) in
    let told : (k : ℕ) → k < length p.initials → HoldsAt (IsMarked t.own_transmit p.initials k) new k =
    subst (λ (es : List InitialWords). (k : ℕ) → k < length es → HoldsAt (IsMarked t.own_transmit es k) new k) c.as_slice-entries.ensures c.in_ok-mark_all.ensures in
    λ k l d. subst (λ (list : List InitialSpares). (w : ℕ) → w < 32 → SparesWord p k w (has_bit (get_or list k d).words w)) (sym all) (word_told p t k (get_or new k d) c.of.ensures.legal (told k l d))
