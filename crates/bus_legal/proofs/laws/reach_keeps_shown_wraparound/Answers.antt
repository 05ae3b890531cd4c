use Rattle.bus_legal.proofs.Descriptions.{wrap-reach}
use Rattle.bus_legal.proofs.laws.reach_keeps_shown_wraparound.Goals as goal

pub returns : goal.returns
returns c = wrap-reach
