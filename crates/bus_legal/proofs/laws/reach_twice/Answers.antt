use Rattle.bus_legal.proofs.Descriptions.{reach-reach}
use Rattle.bus_legal.proofs.laws.reach_twice.Goals as goal

pub returns : goal.returns
returns c = reach-reach
