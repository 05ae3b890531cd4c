use Rattle.std.proofs.Common.{ℕ, ◌<◌, length, subst, sym}
use Rattle.bus_word.specs.Mask.{has_bit}
use Rattle.spare_entries.specs.Without.{SparesWord}
use Rattle.spare_entries.specs.declared.initials.InitialSpares.{InitialSpares}
use Rattle.rt1553_lint.proofs.Warned.{warns_initial}
use Rattle.rt1553_lint.proofs.warnings.push_initials.Goals as goal

pub loop-index-preserved : goal.loop-index-preserved
loop-index-preserved c = warns_initial _ c.loop-index.index _ _ _ c.loop-index.invariant c.in_ok-push_initial.ensures

pub push_initial-requires-clause-words : goal.push_initial-requires-clause-words
push_initial-requires-clause-words c =
    let within = subst (λ entries. c.loop-index.index < length entries) c.as_slice-index-end.ensures c.loop-index-test.true in
    subst (λ (spares : InitialSpares). (w : ℕ) → w < 32 → SparesWord c.args.judged.now.profile.now c.loop-index.index w (has_bit spares.words w)) (sym c.index.ensures)
    (c.in_ok-spares.ensures.words c.loop-index.index within c.index.result.now)
