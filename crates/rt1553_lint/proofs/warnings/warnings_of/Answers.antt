use Rattle.std.proofs.Common.{map, flat_map, ◌++◌, length, subst}
use Rattle.std.specs.List.{range_with_len}
use Rattle.spare_entries.specs.declared.spare.SparePlace.TheVariants.{Rule, Mode}
use Rattle.spare_entries.specs.Spares.{setting_places, initial_places, places_of}
use Rattle.rt1553_lint.specs.Findings.{Warns}
use Rattle.rt1553_lint.proofs.Warned.{warns_append}
use Rattle.rt1553_lint.proofs.warnings.warnings_of.Goals as goal

pub returns : goal.returns
returns c =
    let p = c.args.profile.now in
    let rules = map Rule (range_with_len 0 (length p.rules)) in
    let modes = map Mode (range_with_len 0 (length p.modes)) in
    let initials = flat_map initial_places (range_with_len 0 (length p.initials)) in
    subst (λ old. Warns p (places_of p) old c.push_initials.new.findings.items) c.new-findings.ensures.items
    (warns_append p setting_places (rules ++ (modes ++ initials)) _ _ _ c.in_ok-push_settings.ensures
    (warns_append p rules (modes ++ initials) _ _ _ c.in_ok-push_rules.ensures (warns_append p modes initials _ _ _ c.in_ok-push_modes.ensures c.in_ok-push_initials.ensures)))
