use Rattle.rt1553_report.specs.Recorded.{other_bits}
use Rattle.rt1553_report.proofs.TextLaws.{text_behind}
use Rattle.rt1553_report.proofs.fault.push_other_bits.Goals as goal

pub returns : goal.returns
unfolding other_bits
returns c = text_behind c.push_bits.result _ _ _ _ _ c.in_ok-push_str.ensures.bytes c.push_bits.ensures
