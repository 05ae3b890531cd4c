use Rattle.terminal_recordings.proofs.LaterLaw.{later_law}
use Rattle.terminal_recordings.proofs.laws.later_recordings.Goals as goal

pub returns : goal.returns
returns c = later_law
