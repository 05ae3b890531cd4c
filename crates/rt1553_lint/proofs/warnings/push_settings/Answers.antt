use Rattle.std.proofs.Common.{[], ◌∷◌}
use Rattle.spare_entries.specs.declared.spare.Setting.TheVariants.{Broadcast, Wraparound, AcceptBusControl, Vector, Bit}
use Rattle.spare_entries.specs.declared.spare.SparePlace.TheVariants.{Key}
use Rattle.rt1553_lint.proofs.Warned.{warns_append}
use Rattle.rt1553_lint.proofs.warnings.push_settings.Goals as goal

pub returns : goal.returns
returns c =
    warns_append _ (Key Broadcast ∷ []) (Key Wraparound ∷ Key AcceptBusControl ∷ Key Vector ∷ Key Bit ∷ []) _ _ _ c.in_ok-push_setting.ensures
    (warns_append _ (Key Wraparound ∷ []) (Key AcceptBusControl ∷ Key Vector ∷ Key Bit ∷ []) _ _ _ c.in_ok-push_setting-2.ensures
    (warns_append _ (Key AcceptBusControl ∷ []) (Key Vector ∷ Key Bit ∷ []) _ _ _ c.in_ok-push_setting-3.ensures
    (warns_append _ (Key Vector ∷ []) (Key Bit ∷ []) _ _ _ c.in_ok-push_setting-4.ensures c.in_ok-push_setting-5.ensures)))
