use Rattle.bus_complete_test.proofs.Complete.{complete_test_law}
use Rattle.bus_complete_test.proofs.laws.complete_test.Goals as goal

pub returns : goal.returns
returns c = complete_test_law
