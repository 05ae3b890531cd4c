use Rattle.rt1553_report.proofs.TextLaws.{text_behind}
use Rattle.rt1553_report.proofs.fault.push_too_late.Goals as goal

pub returns : goal.returns
returns c = text_behind c.push_lateness.result _ _ _ _ _ c.in_ok-push_str.ensures.bytes c.push_lateness.ensures
