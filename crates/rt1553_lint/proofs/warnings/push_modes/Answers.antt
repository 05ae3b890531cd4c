use Rattle.spare_entries.specs.declared.spare.SparePlace.TheVariants.{Mode}
use Rattle.rt1553_lint.proofs.Warned.{warns_more}
use Rattle.rt1553_lint.proofs.warnings.push_modes.Goals as goal

pub loop-index-preserved : goal.loop-index-preserved
loop-index-preserved c = warns_more _ Mode c.loop-index.index _ _ _ c.loop-index.invariant c.in_ok-push_mode.ensures
