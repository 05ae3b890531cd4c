use Rattle.std.proofs.Common.{◌≡◌, ◌++◌, OnOk, string_bytes, subst, sym}
use Rattle.recording_coverage.specs.Texts.{place_told}
use Rattle.recording_coverage.proofs.TextLaws.{adds_on_ok}
use Rattle.recording_coverage.proofs.lines.push_place.Goals as goal

pub returns-in_ok-push_str-in-BroadMode : goal.returns-in_ok-push_str-in-BroadMode
returns-in_ok-push_str-in-BroadMode c =
    subst (λ cell. OnOk c.push_code-in-BroadMode.result (string_bytes c.push_code-in-BroadMode.new.text ≡ string_bytes c.args.text.now ++ place_told cell)) (sym c.in-BroadMode.is)
    (adds_on_ok c.push_code-in-BroadMode.result _ _ _ _ _ c.in_ok-push_str-in-BroadMode.ensures.bytes c.push_code-in-BroadMode.ensures)
