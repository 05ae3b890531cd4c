use Rattle.rt1553.proofs.LoadLaws.{one_description}
use Rattle.rt1553.proofs.laws.one_description.Goals as goal

pub returns : goal.returns
returns c = one_description
