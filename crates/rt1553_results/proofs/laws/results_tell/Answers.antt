use Rattle.rt1553_results.proofs.UnitLaws.{unit_law}
use Rattle.rt1553_results.proofs.laws.results_tell.Goals as goal

pub returns : goal.returns
returns c = unit_law
