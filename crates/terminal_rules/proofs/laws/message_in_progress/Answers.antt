use Rattle.terminal_rules.proofs.LatestLaw.{latest_start_law, one_message_law}
use Rattle.terminal_rules.proofs.laws.message_in_progress.Goals as goal

pub returns : goal.returns
returns c = record { latest_start = latest_start_law; one_message = one_message_law }
