use Rattle.recording_coverage.proofs.OnceLaws.{each_once}
use Rattle.recording_coverage.proofs.laws.each_message_once.Goals as goal

pub returns : goal.returns
returns c = each_once
