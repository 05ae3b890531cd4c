use Rattle.bus_terminal.proofs.ReceivedLaw.{received_is_handed}
use Rattle.bus_terminal.proofs.laws.received_is_handed.Goals as goal

pub returns : goal.returns
returns c = received_is_handed
