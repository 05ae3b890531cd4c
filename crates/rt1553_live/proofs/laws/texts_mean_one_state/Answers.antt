use Rattle.rt1553_live.proofs.TextLaws.{one_state}
use Rattle.rt1553_live.proofs.laws.texts_mean_one_state.Goals as goal

pub returns : goal.returns
returns c = one_state
