use Rattle.recording_coverage.proofs.EndingLaws.{ends-of-reach}
use Rattle.recording_coverage.proofs.laws.reach_keeps_endings.Goals as goal

pub returns : goal.returns
returns c = ends-of-reach
