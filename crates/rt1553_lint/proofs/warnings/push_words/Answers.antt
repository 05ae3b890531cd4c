use Rattle.std.proofs.Common.{subst, sym}
use Rattle.spare_entries.specs.Without.{SparesWord}
use Rattle.spare_entries.specs.declared.spare.SparePlace.TheVariants.{Word}
use Rattle.rt1553_lint.proofs.Warned.{warns_more}
use Rattle.rt1553_lint.proofs.warnings.push_words.Goals as goal

pub loop-word-preserved : goal.loop-word-preserved
loop-word-preserved c = warns_more _ (Word c.args.index) c.loop-word.word _ _ _ c.loop-word.invariant c.in_ok-push_word.ensures

pub push_word-requires-clause-spare : goal.push_word-requires-clause-spare
push_word-requires-clause-spare c =
    subst (λ b. SparesWord c.args.judged.now.profile.now c.args.index c.loop-word.word b) (sym c.has_bit-is_spare.ensures) (c.requires.spares c.loop-word.word c.loop-word-test.true)
