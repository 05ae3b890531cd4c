use Rattle.std.proofs.Common.{rules}
use Rattle.spare_entries.specs.declared.spare.SparePlace.TheVariants.{Rule}
use Rattle.rt1553_lint.proofs.Warned.{warns_unless, warns_if}
use Rattle.rt1553_lint.proofs.warnings.push_rule.Goals as goal

pub returns-then-not-is_spare : goal.returns-then-not-is_spare
returns-then-not-is_spare c = warns_unless _ _ (Rule c.args.index) _ c.requires.spare (search rules)

pub returns : goal.returns
returns c = warns_if _ _ (Rule c.args.index) _ _ c.requires.spare (search rules) c.in_ok-push_warning.ensures
