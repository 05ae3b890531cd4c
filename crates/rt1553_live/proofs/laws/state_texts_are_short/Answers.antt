use Rattle.rt1553_live.proofs.TextLaws.{state_size}
use Rattle.rt1553_live.proofs.laws.state_texts_are_short.Goals as goal

pub returns : goal.returns
returns c = state_size
