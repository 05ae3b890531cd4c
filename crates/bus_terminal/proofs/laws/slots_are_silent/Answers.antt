use Rattle.bus_terminal.proofs.SlotsLaw.{slots_are_silent}
use Rattle.bus_terminal.proofs.laws.slots_are_silent.Goals as goal

pub returns : goal.returns
returns c = slots_are_silent
