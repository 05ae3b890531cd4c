use Rattle.terminal_recordings.proofs.MaybeLaw.{maybe_law}
use Rattle.terminal_recordings.proofs.laws.maybe_recordings.Goals as goal

pub returns : goal.returns
returns c = maybe_law
