use Rattle.terminal_recordings.proofs.Law.{recording_law}
use Rattle.terminal_recordings.proofs.laws.recordings.Goals as goal

pub returns : goal.returns
returns c = recording_law
