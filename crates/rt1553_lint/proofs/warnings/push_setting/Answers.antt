use Rattle.std.proofs.Common.{rules}
use Rattle.rt1553_lint.proofs.Warned.{warns_default, warns_needed, warns_setting}
use Rattle.rt1553_lint.proofs.warnings.push_setting.Goals as goal

pub returns-then-is_default : goal.returns-then-is_default
returns-then-is_default c = warns_default _ c.args.setting _ (search rules)

pub returns-then-not-branch : goal.returns-then-not-branch
returns-then-not-branch c = warns_needed _ _ c.args.setting _ c.in_ok-is_spare_setting.ensures (search rules)

pub returns : goal.returns
returns c = warns_setting _ _ c.args.setting _ _ (search rules) c.in_ok-is_spare_setting.ensures (search rules) c.in_ok-push_warning.ensures
