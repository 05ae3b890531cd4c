use Rattle.rt1553_live.proofs.StateLaws.{stands_alike}
use Rattle.rt1553_live.proofs.laws.states_answer_alike.Goals as goal

pub returns : goal.returns
returns c = stands_alike
