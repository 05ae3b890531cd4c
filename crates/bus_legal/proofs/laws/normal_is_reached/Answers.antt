use Rattle.bus_legal.proofs.NormalLaws.{reach-normal}
use Rattle.bus_legal.proofs.laws.normal_is_reached.Goals as goal

pub returns : goal.returns
returns c = reach-normal
