use Rattle.terminal_recordings.proofs.MaskLaw.{mask_law}
use Rattle.terminal_recordings.proofs.laws.masked_recordings.Goals as goal

pub returns : goal.returns
returns c = mask_law
