use Rattle.terminal_bus.proofs.Law.{one_speaker_law}
use Rattle.terminal_bus.proofs.laws.one_speaker.Goals as goal

pub returns : goal.returns
returns c = one_speaker_law
