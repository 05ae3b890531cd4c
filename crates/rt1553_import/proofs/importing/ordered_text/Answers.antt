use Rattle.std.proofs.Common.{string_bytes, subst, ◌∙◌}
use Rattle.bus_profile.specs.Read.{Accepts}
use Rattle.rt1553_import.proofs.ImportLaws.{text_says, same_says}
use Rattle.rt1553_import.proofs.importing.ordered_text.Goals as goal

pub returns-in-Ok : goal.returns-in-Ok
returns-in-Ok c =
    same_says c.args.sheet.now (string_bytes c.args.text) (string_bytes c.in_ok-ordered.ordered) c.in_ok-profile.profile c.in-Ok.back c.requires
    (subst (λ t. Accepts t c.in_ok-profile.profile) c.as_str.ensures.value c.in_ok-profile.ensures)
    (subst (λ t. Accepts t c.in-Ok.back) (c.as_bytes.ensures.value ∙ c.as_str-2.ensures.value) c.in-Ok.ensures.accepted)
    (c.is_same_profile.ensures c.if-is_same_profile.true)

pub returns-in_default : goal.returns-in_default
returns-in_default c =
    text_says c.args.sheet.now (string_bytes c.args.text) c.in_ok-profile.profile c.requires
    (subst (λ t. Accepts t c.in_ok-profile.profile) c.as_str.ensures.value c.in_ok-profile.ensures)
