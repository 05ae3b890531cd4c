use Rattle.rt1553_expand.proofs.SpelledLaws.{each_is_said}
use Rattle.rt1553_expand.proofs.laws.each_message_is_said.Goals as goal

pub returns : goal.returns
returns c = each_is_said
