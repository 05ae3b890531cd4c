use Rattle.bus_legal.proofs.LegalLaws.{legal_allowed}
use Rattle.bus_legal.proofs.laws.legal_cells_are_allowed.Goals as goal

pub returns : goal.returns
returns c = legal_allowed
