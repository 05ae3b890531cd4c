use Rattle.bus_canon.proofs.CanonLaws.{value_one}
use Rattle.bus_canon.proofs.laws.texts_mean_one_value.Goals as goal

pub returns : goal.returns
returns c = value_one
