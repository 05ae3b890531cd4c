use Rattle.rt1553_live.proofs.TextLaws.{state_one}
use Rattle.rt1553_live.proofs.laws.states_have_one_text.Goals as goal

pub returns : goal.returns
returns c = state_one
